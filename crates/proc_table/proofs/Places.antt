-- The place of a number in a list: by a walk from the first member, or after the member with the number before.
use Rattle.proc_table.proofs.CommonNames.{nat_tests, ◌≡◌, ℕ, ◌+◌, ◌<◌, ◌≤◌, Option, Some, None, arith, IsNearest, up, down, anywhere, above, below, at_least}
use Rattle.lwp_table.specs.Chain.{Node}

-- the numbers up to this one
abbrev pub up_to : ℕ → ℕ → Type 0
up_to a p = p ≤ a

-- the walk has passed the members up to a number that is below `pid`, and is between these two
pub record HasPassed (m : ℕ → Option Node) (t pid passed : ℕ) (prev next : Option ℕ) : Type 0 where
  pub prev_is : IsNearest down m t (up_to passed) prev
  pub next_is : IsNearest up m t (above passed) next
  pub before : passed < pid

-- a number has its place in the list between these two
pub record IsPlace (m : ℕ → Option Node) (t pid : ℕ) (prev next : Option ℕ) : Type 0 where
  pub prev_is : IsNearest down m t (below pid) prev
  pub next_is : IsNearest up m t (at_least pid) next

module _ (m : ℕ → Option Node) (t pid : ℕ) where
  -- after the last member, if its number is less
  pub place-last : (s : ℕ) → (last : IsNearest down m t anywhere (Some s)) → last.0.key < pid → IsPlace m t pid (Some s) None
  place-last s last less = grind (arith, nat_tests)

  -- the walk begins
  pub passing-first : (o : Option ℕ) → ((s : ℕ) (node : Node) → m s ≡ Some node → 0 < node.key) → 0 < pid → IsNearest up m t anywhere o → HasPassed m t pid 0 None o
  passing-first o above_zero positive first = grind (arith, nat_tests)

  module _ (passed : ℕ) (prev : Option ℕ) where
    -- the walk passes a member
    pub passing-on : (s : ℕ) (next : Option ℕ) (walk : HasPassed m t pid passed prev (Some s)) → walk.next_is.0.key < pid → IsNearest up m t (above walk.next_is.0.key) next → HasPassed m t pid walk.next_is.0.key (Some s) next
    passing-on s next walk less near = grind (arith, nat_tests)

    -- and ends before a member whose number isn't less, or after all
    pub place-found : (next : Option ℕ) → (walk : HasPassed m t pid passed prev next) → ((j : ℕ) (node : Node) → m j ≡ Some node → node.list ≡ t → passed < node.key → pid ≤ node.key) → IsPlace m t pid prev next
    place-found next walk past = grind (arith, nat_tests)

-- the place after a member, by its link
pub place-next : (m : ℕ → Option Node) (t s : ℕ) (node : Node) → m s ≡ Some node → node.list ≡ t → IsNearest up m t (above node.key) node.next → IsPlace m t (node.key + 1) (Some s) node.next
place-next m t s node there its near = grind (arith, nat_tests)
