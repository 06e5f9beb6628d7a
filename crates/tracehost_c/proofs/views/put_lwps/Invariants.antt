use Rattle.{std.{proofs.Common.{◌≡◌, ◌++◌, take, drop}, specs.Prelude.map}, tracehost_c.specs.FlatRows.flat_lwp}
use Rattle.tracehost_c.proofs.views.put_lwps.Given as goal

abbrev pub invariant-loop-place : goal.invariant-loop-place
invariant-loop-place l = l.out ≡ take l.place (map flat_lwp l.rows) ++ drop l.place l.initial.out
