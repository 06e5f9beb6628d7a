use Rattle.{std.{proofs.Common.{◌≡◌, ◌++◌, take, drop}, specs.Prelude.map}, tracehost_c.specs.FlatRows.flat_process}
use Rattle.tracehost_c.proofs.views.put_processes.Given as goal

abbrev pub invariant-loop-place : goal.invariant-loop-place
invariant-loop-place l = l.out ≡ take l.place (map flat_process l.rows) ++ drop l.place l.initial.out
