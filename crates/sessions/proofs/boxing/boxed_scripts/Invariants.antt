use Rattle.std.proofs.Common.{◌≡◌, ◌++◌, map}
use Rattle.sessions.proofs.CommonNames.{into_iter_items, boxed_script, report_of}
use Rattle.sessions.proofs.boxing.boxed_scripts.Given as goal

abbrev pub invariant-loop-script : goal.invariant-loop-script
invariant-loop-script g l = let left = into_iter_items l.script-iterator in record {
  scripts : map boxed_script l.small.items ++ map g.S.Scripted.plain left ≡ map g.S.Scripted.plain l.fn.scripts.items;
  reports : map report_of l.small.items ++ map g.S.Scripted.report left ≡ map g.S.Scripted.report l.fn.scripts.items;
}
