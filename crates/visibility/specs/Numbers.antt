-- The numbers of the rows that a user sees.
use Rattle.requests.specs.View.{View}
use Rattle.lwp_table.specs.Lwps.{Once}

-- no two processes have the same number, and no two LWPs
pub record NumbersDiffer (v : View) : Type 0 where
  pub processes : Once (λ p. p.pid) v.processes
  pub lwps : Once (λ l. l.tid) v.lwps
