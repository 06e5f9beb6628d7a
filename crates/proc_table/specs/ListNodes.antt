-- What the lists of each kind see of a slot, and what the table's rows see of it.
use Rattle.std.specs.Prelude.{◌≡◌, ◌<◌, ◌==◌, ◌&&◌, if◌then◌else◌}
use Rattle.proc_table.specs.CommonNames.{ℕ, Bool, true, false, List, Option, Some, None, nat_eq, ltb, find, lookup, option_and_then, option_map, IsSomeAnd, ProcData, ListKind, Tracees, Children, ListLinks, RowNode}
use Rattle.proc_table.specs.Links.{Node, IsLinked, keys}
use Rattle.proc_table.specs.Slots.{IsSlotted}
use Rattle.proc_table.specs.Processes.{is_this}

abbrev pub put_links : ListKind → ListLinks → RowNode → RowNode
put_links Tracees links slot = record slot { tracees = links }
put_links Children links slot = record slot { children = links }

abbrev pub other : ListKind → ListKind
other Tracees = Children
other Children = Tracees

-- one value for each kind
abbrev pub pick : {A : Type 0} → ListKind → A → A → A
pick Tracees tracees children = tracees
pick Children tracees children = children

abbrev pub links_in : ListKind → RowNode → ListLinks
links_in kin slot = pick kin slot.tracees slot.children

-- the number of the row that a row names. No row has the number 1
abbrev pub parent_named : ℕ → Option ℕ
parent_named parent = if parent == 1 then None else Some parent

abbrev pub list_owner : ListKind → ProcData → Option ℕ
list_owner kin p = pick kin p.tracer (parent_named p.parent)

abbrev pub node_of : ListKind → RowNode → Node
node_of kin slot = record {
  pid = slot.row.pid;
  list_owner = (links_in kin slot).list_owner;
  first = (links_in kin slot).first;
  last = (links_in kin slot).last;
  prev = (links_in kin slot).prev;
  next = (links_in kin slot).next;
}

abbrev pub nodes_of : ListKind → (ℕ → Option RowNode) → ℕ → Option Node
nodes_of kin f s = option_map (node_of kin) (f s)

abbrev pub rows_of : (ℕ → Option RowNode) → ℕ → Option ProcData
rows_of f s = option_map (λ slot. slot.row) (f s)

-- the slot to which a number leads, if its row has the number: it may have had it once
abbrev pub slot_named : (ℕ → Option RowNode) → List (ℕ × ℕ) → ℕ → Option ℕ
slot_named f es n = option_and_then (λ s. option_and_then (λ slot. if slot.row.pid == n then Some s else None) (f s)) (lookup (nat_eq n) es)

-- the slot has the row with this number
abbrev pub IsHead : (ℕ → Option RowNode) → ℕ → ℕ → Type 0
IsHead f head t = IsSomeAnd (f head) (λ slot. slot.row.pid ≡ t)

-- a slot for each row, and the lists of both kinds, whose heads are rows
pub record AreLinked (nodes : ℕ → Option RowNode) (es : List (ℕ × ℕ)) : Type 0 where
  pub listed : (s : ℕ) (slot : RowNode) → nodes s ≡ Some slot → lookup (nat_eq slot.row.pid) es ≡ Some s
  pub linked : (kin : ListKind) → IsLinked (nodes_of kin nodes)
  pub headed : (kin : ListKind) (s : ℕ) (slot : RowNode) (t : ℕ) → nodes s ≡ Some slot → (node_of kin slot).list_owner ≡ Some t → (h : ℕ) × (lookup (nat_eq t) es ≡ Some h) × IsHead nodes h t

-- what is maintained of the slots: the rows, the lists, and in whose lists the rows are
pub record IsTied (nodes : ℕ → Option RowNode) (es : List (ℕ × ℕ)) (counts : List ℕ) : Type 0 where
  pub slotted : IsSlotted (rows_of nodes) es counts
  pub are_linked : AreLinked nodes es
  pub list_owners : (kin : ListKind) (s : ℕ) → keys (nodes_of kin nodes) s ≡ option_map (λ p. (p.pid, list_owner kin p)) (rows_of nodes s)

-- the first row above a number that names this one
abbrev pub next_named : ListKind → ℕ → ℕ → List ProcData → Option ProcData
next_named kin n after processes = find (λ p. ltb after p.pid && is_this n (list_owner kin p)) processes

-- the first row that names this one and passes a test
abbrev pub find_named : ListKind → ℕ → (ProcData → Bool) → List ProcData → Option ProcData
find_named kin n test processes = find (λ p. is_this n (list_owner kin p) && test p) processes

-- the slot `o` has the first row in the list of t at which a call returns true, or there is none
abbrev pub IsFirst : (ℕ → Option RowNode) → ListKind → ℕ → (ProcData → Bool → Type 0) → Option ℕ → Type 0
IsFirst nodes kin t returns None = (j : ℕ) (other : RowNode) → nodes j ≡ Some other → (node_of kin other).list_owner ≡ Some t → returns other.row false
IsFirst nodes kin t returns (Some s) = (slot : RowNode) × (nodes s ≡ Some slot) × ((node_of kin slot).list_owner ≡ Some t) × returns slot.row true × ((j : ℕ) (other : RowNode) → nodes j ≡ Some other → (node_of kin other).list_owner ≡ Some t → other.row.pid < slot.row.pid → returns other.row false)

-- a row in no list, whose own list is empty
abbrev pub no_links : ListLinks
no_links = record { list_owner = None; first = None; last = None; prev = None; next = None }

abbrev pub unlinked : ProcData → RowNode
unlinked row = record { row = row; tracees = no_links; children = no_links }
