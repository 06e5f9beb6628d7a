use Rattle.requests.proofs.CommonNames.{◌≡◌, length, HasLwp}
use Rattle.requests.specs.Programs.{only_lwp}
use Rattle.requests.proofs.execve.keep_lwp.Given as goal

abbrev pub invariant-loop-other : goal.invariant-loop-other
invariant-loop-other l = record {
  there : HasLwp l.pid l.tid l.tables.rows;
  same : only_lwp l.pid l.tid l.tables.rows ≡ only_lwp l.pid l.tid l.fn.tables.rows;
}

abbrev pub decreases-loop-other : goal.decreases-loop-other
decreases-loop-other l = length l.tables.rows.lwps
