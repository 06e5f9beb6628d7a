-- What a handle owns: its session's block, if it has a session.
use base.Fml.{Fml, ftrue}
use denote.RawPtr.{Ptr}
use Rattle.std.specs.{Prelude.{ℕ, Option, Some, None}, Coded.{Coded, coded_option}, Box.Ownership.box_owns, Global.Global, contracts.impls.GlobalAllocator.TheImpl.ghosts}
use Rattle.open_sessions.specs.contracts.session.Session.{the_row}

abbrev pub session_coded : Coded (Option the_row.Denot)
session_coded = coded_option the_row.coded

abbrev pub held_owns : Global → Ptr → Option the_row.Denot → Fml
held_owns alloc p (Some s) = box_owns (ghosts.dealloc_token alloc) the_row p s
held_owns alloc p None = ftrue

-- what the handle of a session, or of none, has as its tag
abbrev pub open_tag : {A : Type 0} → Option A → ℕ
open_tag (Some s) = 7954887940817252200
open_tag None = 0
