-- The list of a user's processes.
use Rattle.requests.specs.CommonNames.{ℕ, map, of_user, Rows, Reply}
use Rattle.requests.specs.Outcome.{Outcome, answers}

abbrev pub list : ℕ → Rows → Outcome
list u rows = answers (Reply.Pids (map (λ p. p.pid) (of_user u rows.processes))) rows
