-- Doubly linked lists through slots, each in rising order of pid.
use Rattle.std.specs.Prelude.{◌≡◌, ◌<◌, ◌≤◌, ◌&&◌, if◌then◌else◌}
use Rattle.proc_table.specs.CommonNames.{ℕ, Option, Some, None, is_none, nat_eq, option_map, option_and_then, IsChain, leads_to}
use Rattle.lwp_table.specs.Chain.{Node as Member}

-- what lists see of a slot: the pid of its row, the number whose list contains the row, the slots of the first and the
-- last row of its own list, and of the rows before and after it in the list that contains it
pub record Node : Type 0 where
  pub pid : ℕ
  pub list_owner : Option ℕ
  pub first : Option ℕ
  pub last : Option ℕ
  pub prev : Option ℕ
  pub next : Option ℕ

-- what lists are built from, at each slot: the node's pid and the number whose list contains it
abbrev pub keys : (ℕ → Option Node) → ℕ → Option (ℕ × Option ℕ)
keys nodes slot = option_map (λ node. (node.pid, node.list_owner)) (nodes slot)

-- the slot `o` has the least pid above `after` in the list of t, or there is none
abbrev pub IsNext : (ℕ → Option (ℕ × Option ℕ)) → ℕ → ℕ → Option ℕ → Type 0
IsNext m t after None = (j p : ℕ) → m j ≡ Some (p, Some t) → p ≤ after
IsNext m t after (Some s) = (p : ℕ) × (m s ≡ Some (p, Some t)) × (after < p) × ((j other : ℕ) → m j ≡ Some (other, Some t) → after < other → p ≤ other)

-- the node as a member of the list of a number, if any
abbrev pub member : Node → Option Member
member node = option_map (λ t. record { key = node.pid; list = t; prev = node.prev; next = node.next }) node.list_owner

abbrev pub members : (ℕ → Option Node) → ℕ → Option Member
members nodes slot = option_and_then member (nodes slot)

-- no two nodes have the same pid, and a node's first and last links lead to the ends of its own list
pub record IsLinked (nodes : ℕ → Option Node) : Type 0 where
  pub apart : (i j : ℕ) (a b : Node) → nodes i ≡ Some a → nodes j ≡ Some b → a.pid ≡ b.pid → i ≡ j
  pub above_zero : (s : ℕ) (node : Node) → nodes s ≡ Some node → 0 < node.pid
  pub lists : (s : ℕ) (node : Node) → nodes s ≡ Some node → IsChain (members nodes) node.pid node.first node.last

-- the numbers from this one on
abbrev pub at_least : ℕ → ℕ → Type 0
at_least a p = a ≤ p

-- the node in slot s, after the link from `at` to what follows was changed; if `at` is none, it is the head's first link
abbrev pub forward : ℕ → Option ℕ → Option ℕ → ℕ → Node → Node
forward head at to s node = record node { first = if nat_eq head s && is_none at then to else node.first; next = if leads_to at s then to else node.next }

-- and after the link from `at` to what precedes was changed; if `at` is none, it is the head's last link
abbrev pub backward : ℕ → Option ℕ → Option ℕ → ℕ → Node → Node
backward head at to s node = record node { last = if nat_eq head s && is_none at then to else node.last; prev = if leads_to at s then to else node.prev }

-- and after the node in slot q came into the list of this number, or into none, between these two
abbrev pub hung : ℕ → Option ℕ → Option ℕ → Option ℕ → ℕ → Node → Node
hung q list_owner prev next s node = record node {
  list_owner = if nat_eq q s then list_owner else node.list_owner;
  prev = if nat_eq q s then prev else node.prev;
  next = if nat_eq q s then next else node.next;
}
