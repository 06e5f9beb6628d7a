use Rattle.std.proofs.Common.{◌+◌, ◌*◌, vec_len}
use Rattle.sessions.proofs.workers.+run.Given as goal

abbrev pub decreases-run_beside : goal.decreases-run_beside
decreases-run_beside g l = 3 * vec_len l.jobs + 2

abbrev pub decreases-run_beside-scope : goal.decreases-run_beside-scope
decreases-run_beside-scope g l = 3 * vec_len l.jobs + 1

abbrev pub decreases-run_all : goal.decreases-run_all
decreases-run_all g l = 3 * vec_len l.jobs
