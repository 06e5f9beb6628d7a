-- Which child a wait reports, and how a wait depends only on one user's rows.
use Rattle.std.specs.Prelude.{◌≡◌, ◌≢◌, ◌&&◌}
use Rattle.trace_rows.specs.CommonNames.{ℕ, ℤ, true, Rows, owns, LeastOrNone, only_of}
use Rattle.trace_rows.specs.Facts.{IsSound}
use Rattle.step_types.specs.declared.Options.{Options}
use Rattle.wait4.specs.Collect.{is_child, fits, reportable, reported, collect, rows_after}

-- the reported child has the least number of those that the wait is for and that have something to report
abbrev pub ReportedLeast : Type 0
ReportedLeast = (rows : Rows) (caller : ℕ) (which : ℤ) (options : Options) → IsSound rows
    → LeastOrNone (λ p. (is_child caller p && fits which p) && reportable options caller p) 0 rows.processes (reported caller which options rows)

-- for a process of the user, the reported child and the answer are the same as if no other user had rows
abbrev pub ReportedOwn : Type 0
ReportedOwn = (rows : Rows) (u caller : ℕ) (which : ℤ) (options : Options) → IsSound rows → owns u caller rows.processes ≡ true
    → reported caller which options (only_of u rows) ≡ reported caller which options rows

abbrev pub CollectOwn : Type 0
CollectOwn = (rows : Rows) (u caller : ℕ) (which : ℤ) (options : Options) → IsSound rows → owns u caller rows.processes ≡ true
    → collect caller which options (only_of u rows) ≡ collect caller which options rows

-- and so are the user's own rows after the wait
abbrev pub AfterOwn : Type 0
AfterOwn = (rows : Rows) (u caller : ℕ) (which : ℤ) (options : Options) → IsSound rows → owns u caller rows.processes ≡ true
    → only_of u (rows_after caller which options rows) ≡ rows_after caller which options (only_of u rows)

-- every other user's rows stay unchanged
abbrev pub AfterOthers : Type 0
AfterOthers = (rows : Rows) (u w caller : ℕ) (which : ℤ) (options : Options) → IsSound rows → owns u caller rows.processes ≡ true → w ≢ u
    → only_of w (rows_after caller which options rows) ≡ only_of w rows
