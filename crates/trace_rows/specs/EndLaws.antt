-- The end of a process, as one user's rows show it.
use Rattle.std.specs.Prelude.{◌≡◌, ◌≢◌}
use Rattle.trace_rows.specs.CommonNames.{ℕ, true, Rows, owns, only_of}
use Rattle.step_types.specs.declared.Settings.{Settings}
use Rattle.trace_rows.specs.End.{end}
use Rattle.trace_rows.specs.Facts.{IsSound}

-- among a user's rows, the end of one of the user's processes has the same result as if only these rows existed
abbrev pub EndOwn : Type 0
EndOwn = (settings : Settings) (rows : Rows) (u p status : ℕ) → IsSound rows → owns u p rows.processes ≡ true
    → only_of u (end settings p status rows) ≡ end settings p status (only_of u rows)

-- and it leaves every other user's rows unchanged
abbrev pub EndOthers : Type 0
EndOthers = (settings : Settings) (rows : Rows) (u w p status : ℕ) → IsSound rows → owns u p rows.processes ≡ true → w ≢ u
    → only_of w (end settings p status rows) ≡ only_of w rows
