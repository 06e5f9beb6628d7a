use Rattle.std.proofs.Common.{◌≡◌, ◌++◌, map}
use Rattle.scenario.proofs.CommonNames.{AllByRecursion, into_iter_items, boxed_script}
use Rattle.scenario.proofs.threading.reported.Given as goal

abbrev pub invariant-loop-script : goal.invariant-loop-script
invariant-loop-script g l = record {
  scripts : map boxed_script l.all.items ++ map boxed_script (into_iter_items l.script-iterator) ≡ map boxed_script l.fn.scripts.items;
  reports : AllByRecursion (λ s. s.report.options ≡ l.options) l.all.items;
}
