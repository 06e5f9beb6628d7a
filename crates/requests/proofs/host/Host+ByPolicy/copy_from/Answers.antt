use Rattle.std.proofs.Common.{◌≡◌, Result, Ok, Err, OnErr, false}
use Rattle.std.specs.Result.{is_ok}
use Rattle.lwp_table.proofs.CopyLemmas.{from-ok}
use Rattle.requests.proofs.SoundAfterSpawn.{empty_sound}
use Rattle.requests.proofs.host.Host+ByPolicy.copy_from.Goals as goal

from-error : {X E P : Type 0} (r : Result X E) → false ≡ is_ok r → OnErr r P → P
from-error (Ok x) is h = absurd (cc)
from-error (Err e) is h = h

pub invariant_of-self : goal.invariant_of-self
invariant_of-self g c = rw (from-ok c.copy_from.result c.if-is_ok.ensures.value c.copy_from.ensures.copied, c.in_ok-handlers.ensures) c.source.invariant

pub invariant_of-self-2 : goal.invariant_of-self-2
invariant_of-self-2 g c = rw (from-error c.copy_from.result c.if-is_ok.ensures.value c.copy_from.ensures.emptied, c.new.ensures) (empty_sound c.self.inside.settings)

pub returns-then-is_ok : goal.returns-then-is_ok
returns-then-is_ok g c = rw (from-ok c.copy_from.result c.if-is_ok.ensures.value c.copy_from.ensures.copied, c.in_ok-handlers.ensures) c.source.view_is
