-- Options under a test.
use Rattle.std.specs.Prelude.{if◌then◌else◌}
use Rattle.proc_table.specs.CommonNames.{Bool, Option, Some, None}

-- what passes a test
abbrev pub keep : {A : Type 0} → (A → Bool) → Option A → Option A
keep test None = None
keep test (Some a) = if test a then Some a else None
