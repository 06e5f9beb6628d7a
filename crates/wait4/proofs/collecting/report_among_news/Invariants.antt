use Rattle.std.proofs.Common.{◌≡◌, true, Some, ◌<◌}
use Rattle.proc_table.specs.{Processes.process_of, declared.ProcData.ProcData}
use Rattle.wait4.specs.Collect.{reportable}
use Rattle.wait4.proofs.collecting.report_among_news.Given as goal

-- the caller is told of no process up to `after`
abbrev pub invariant-loop : goal.invariant-loop
invariant-loop l = record {
  passed : (r : ProcData) → process_of r.pid l.tables.rows.processes ≡ Some r → reportable l.options l.caller r ≡ true → l.after < r.pid;
}
