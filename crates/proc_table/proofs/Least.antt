-- The first row above a number that passes a test has the least number of those.
use Rattle.proc_table.proofs.CommonNames.{nat_tests, ◌≡◌, ℕ, ◌<◌, Bool, false, List, [], ◌∷◌, Option, arith, nat_eq, ◌&&◌, ltb, find, ProcData, traces, AllAbove, Rise, LeastOrNone, NextOfLeast}
use Rattle.proc_table.proofs.CommonNames.{NextTraceeLeast, NextChildLeast}
use Rattle.proc_table.proofs.Rows.{same_number}
use Rattle.proc_table.proofs.Rising.{none_above}
use Rattle.proc_table.proofs.Finds.{below_or_not}

module _ (test : ProcData → Bool) (after : ℕ) where
  passed : (r : ProcData) (ps : List ProcData) (o : Option ProcData) → AllAbove r.pid ps → (after < r.pid → test r ≡ false) → LeastOrNone test after ps o → LeastOrNone test after (r ∷ ps) o
  passed r ps o above fails rest = grind (arith, nat_tests, below_or_not, none_above)

  pub least_or_none : (ps : List ProcData) → Rise ps → LeastOrNone test after ps (find (λ p. ltb after p.pid && test p) ps)
  least_or_none [] up = grind (arith, nat_tests)
  least_or_none (r ∷ ps) up = grind (arith, nat_tests, least_or_none ps up.1, passed, below_or_not, same_number, none_above)

pub next_of-least : NextOfLeast
next_of-least u after ps up = least_or_none (λ p. nat_eq p.uid u) after ps up

pub next_tracee-least : NextTraceeLeast
next_tracee-least pid after ps up = least_or_none (traces pid) after ps up

pub next_child-least : NextChildLeast
next_child-least pid after ps up = least_or_none (λ p. nat_eq p.parent pid) after ps up

pub ruleset least_laws = (next_of-least, next_tracee-least, next_child-least)
