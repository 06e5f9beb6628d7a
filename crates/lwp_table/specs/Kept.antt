-- How a table stores its rows: in slots, each with a birth number, and with links in order of birth.
use Rattle.std.specs.Prelude.{◌≡◌, ℕ, zero, suc, ◌+◌, ◌-◌, ◌<◌, Bool, true, false, ◌==◌, ◌&&◌, List, [], Option, Some, None, nat_eq, count_by, length, find, filter_map, get_or, is_none, is_some, if◌then◌else◌, unwrap_or, IfSome, IsSomeAnd}
use Rattle.std.specs.List.{cons_option}
use Rattle.std.specs.Option.{option_and_then, option_map, option_map_or, option_or}
use Rattle.std.specs.Map.{lookup}
use Rattle.pid_blocks.specs.Blocks.{slot, tid_owner}
use Rattle.lwp_table.specs.declared.LwpData.{LwpData}
use Rattle.lwp_table.specs.declared.links.RowNode.{RowNode}
use Rattle.lwp_table.specs.declared.links.Links.{Links}
use Rattle.lwp_table.specs.declared.links.ListHead.{ListHead}
use Rattle.lwp_table.specs.declared.links.Link.{Link}
use Rattle.lwp_table.specs.declared.links.Link.TheVariants.{NextOwn, PrevOwn, NextUser, PrevUser}
use Rattle.lwp_table.specs.declared.marks.Marks.{Marks}
use Rattle.lwp_table.specs.Chain.{Node, IsChain, IsNearest, up, above, leads_to}
use Rattle.lwp_table.specs.Marks.{covers, no_marks}
use Rattle.lwp_table.specs.Lwps.{waits_for}

-- whether a row is an LWP of this process
abbrev pub is_of : ℕ → LwpData → Bool
is_of pid row = row.pid == pid

-- the index, among the 64 users, of the user whose block contains this number
abbrev pub place_of : ℕ → ℕ
place_of tid = slot (tid_owner tid)

-- whether a row's number belongs to the user with this index
abbrev pub is_at : ℕ → LwpData → Bool
is_at place row = place_of row.tid == place

-- the slot as its process's list sees it, and as its user's does
abbrev pub own_node : RowNode → Node
own_node slot = record { key = slot.born; list = slot.row.pid; prev = slot.own.prev; next = slot.own.next }

abbrev pub user_node : RowNode → Node
user_node slot = record { key = slot.born; list = place_of slot.row.tid; prev = slot.user.prev; next = slot.user.next }

-- the slot as one of all, which no links join
abbrev pub born_node : RowNode → Node
born_node slot = record { key = slot.born; list = 0; prev = None; next = None }

-- the slots as a list sees them
abbrev pub seen_by : (RowNode → Node) → (ℕ → Option RowNode) → ℕ → Option Node
seen_by node f s = option_map node (f s)

-- a link of the slot s, after that of the slot `at` was changed
abbrev pub turned : Option ℕ → Option ℕ → ℕ → Option ℕ → Option ℕ
turned at to s link = if leads_to at s then to else link

-- the slot s, after the link of the slot `at` was changed
abbrev pub linked : Link → Option ℕ → Option ℕ → ℕ → RowNode → RowNode
linked NextOwn at to s slot = record slot { own = record slot.own { next = turned at to s slot.own.next } }
linked PrevOwn at to s slot = record slot { own = record slot.own { prev = turned at to s slot.own.prev } }
linked NextUser at to s slot = record slot { user = record slot.user { next = turned at to s slot.user.next } }
linked PrevUser at to s slot = record slot { user = record slot.user { prev = turned at to s slot.user.prev } }

-- the links of the slot s in a list, after the slot between these two has left it
abbrev pub passed_by : Links → ℕ → Links → Links
passed_by gone s links = record { prev = turned gone.next gone.prev s links.prev; next = turned gone.prev gone.next s links.next }

-- the slot s, after its neighbour has left both lists
abbrev pub closed_up : RowNode → ℕ → RowNode → RowNode
closed_up gone s slot = record slot { own = passed_by gone.own s slot.own; user = passed_by gone.user s slot.user }

-- the ends of an empty list
abbrev pub empty_head : ListHead
empty_head = record { first = None; last = None; count = 0; marks = no_marks; waiter = None }

-- the ends of the users' lists, and how many more users can get one without memory
pub record Heads : Type 0 where
  pub items : List ListHead
  pub spare : ℕ

-- the ends of a list, after this slot has joined it behind the last one, and the marks became these
abbrev pub extended : ℕ → Marks → ListHead → ListHead
extended q marks ends = record { first = option_or ends.first (Some q); last = Some q; count = ends.count + 1; marks = marks; waiter = ends.waiter }

-- the first slot of a list, after a slot with these links has left it
abbrev pub first_without : Links → ListHead → Option ℕ
first_without gone ends = if is_none gone.prev then gone.next else ends.first

-- the ends of a list, after a slot with these links has left it, and the marks of the others became these
abbrev pub without_slot : Links → Marks → ListHead → ListHead
without_slot gone marks ends = record {
  first = first_without gone ends;
  last = if is_none gone.next then gone.prev else ends.last;
  count = ends.count - 1;
  marks = if is_some (first_without gone ends) then marks else no_marks;
  waiter = ends.waiter;
}

-- whether a list is empty, by its ends
abbrev pub has_no_slots : ListHead → Bool
has_no_slots ends = nat_eq ends.count 0 && is_none ends.first && is_none ends.last

-- the ends of the list of a process
abbrev pub ends_at : List (ℕ × ListHead) → ℕ → ListHead
ends_at hs pid = unwrap_or (lookup (nat_eq pid) hs) empty_head

-- whether the marks of this process tell of all that the row has
abbrev pub covering : List (ℕ × ListHead) → ℕ → LwpData → Bool
covering hs pid row = covers (ends_at hs pid).marks row

-- the ends of a list, after its marks became these; the empty list has none
abbrev pub marked : Marks → ListHead → ListHead
marked marks ends = record ends { marks = if is_some ends.first then marks else ends.marks }

-- the ends of a list, after this LWP became the one that may wait for the process
abbrev pub awaited : ℕ → ListHead → ListHead
awaited tid ends = record ends { waiter = Some tid }

-- the row with this birth number
abbrev pub born_row : (ℕ → Option RowNode) → List (ℕ × ℕ) → ℕ → Option LwpData
born_row f es birth = option_map (λ slot. slot.row) (find (λ slot. nat_eq slot.born birth) (filter_map (λ e. f e.1) es))

-- the rows that this many numbers find, starting at `from`
abbrev pub listing : {A : Type 0} → (ℕ → Option A) → ℕ → ℕ → List A
listing f from zero = []
listing f from (suc count) = cons_option (f from) (listing f (from + 1) count)

-- the rows in order of birth
abbrev pub rows_of : (ℕ → Option RowNode) → List (ℕ × ℕ) → ℕ → List LwpData
rows_of f es births = listing (born_row f es) 0 births

-- the slot to which a number leads, if it has the row with this number: it may have had it once
abbrev pub node_named : (ℕ → Option RowNode) → List (ℕ × ℕ) → ℕ → Option RowNode
node_named f es tid = option_and_then (λ slot. if slot.row.tid == tid then Some slot else None) (option_and_then f (lookup (nat_eq tid) es))

-- each row's number leads to its slot, and each row has its own birth number
pub record IsIndexed (f : ℕ → Option RowNode) (es : List (ℕ × ℕ)) (births : ℕ) : Type 0 where
  pub listed : (s : ℕ) (slot : RowNode) → f s ≡ Some slot → lookup (nat_eq slot.row.tid) es ≡ Some s
  pub earlier : (s : ℕ) (slot : RowNode) → f s ≡ Some slot → slot.born < births
  pub apart : (i j : ℕ) (a b : RowNode) → f i ≡ Some a → f j ≡ Some b → a.born ≡ b.born → i ≡ j

-- what a table maintains; `may` tells what rows each process may have
pub record LwpTableInvariant (f : ℕ → Option RowNode) (es : List (ℕ × ℕ)) (hs : List (ℕ × ListHead)) (births : ℕ) (users : List ListHead) (may : ℕ → LwpData → Bool) : Type 0 where
  pub indexed : IsIndexed f es births
  pub own : (pid : ℕ) → IsChain (seen_by own_node f) pid (ends_at hs pid).first (ends_at hs pid).last
  pub long : length users ≡ 64
  pub user : (place : ℕ) → place < 64 → IsChain (seen_by user_node f) place (get_or users place empty_head).first (get_or users place empty_head).last
  pub counted : (pid : ℕ) → (ends_at hs pid).count ≡ count_by (is_of pid) (rows_of f es births)
  pub homes : (place : ℕ) → place < 64 → (get_or users place empty_head).count ≡ count_by (is_at place) (rows_of f es births)
  pub covered : (s : ℕ) (slot : RowNode) → f s ≡ Some slot → may slot.row.pid slot.row ≡ true

-- the list of a process names this row, which waits for the process
pub record IsWaiter (ends : ListHead) (child : ℕ) (row : LwpData) : Type 0 where
  pub is : ends.waiter ≡ Some row.tid
  pub waits : waits_for child row.mode ≡ true

-- each LWP that waits for a process is the one that the process's list names
abbrev pub AreNamed : (ℕ → Option RowNode) → List (ℕ × ListHead) → Type 0
AreNamed f hs = (s : ℕ) (slot : RowNode) (child : ℕ) → f s ≡ Some slot → waits_for child slot.row.mode ≡ true → (ends_at hs child).waiter ≡ Some slot.row.tid

-- the same of a table, which knows whether an LWP may wait that no list names
pub record IsKept (f : ℕ → Option RowNode) (es : List (ℕ × ℕ)) (hs : List (ℕ × ListHead)) (births : ℕ) (users : List ListHead) (unnamed : Bool) : Type 0 where
  pub kept : LwpTableInvariant f es hs births users (covering hs)
  pub named : unnamed ≡ false → AreNamed f hs

-- the rows from a link on
abbrev pub rows_from : (ℕ → Option RowNode) → List (ℕ × ℕ) → ℕ → Option ℕ → List LwpData
rows_from f es births link = option_map_or (λ slot. listing (born_row f es) slot.born (births - slot.born)) (option_and_then f link) []

-- what a walk along a list of slots maintains; `node` is the slot as this list sees it
pub record IsWalk (f : ℕ → Option RowNode) (es : List (ℕ × ℕ)) (births : ℕ) (node : RowNode → Node) (list : ℕ) (link : Option ℕ) : Type 0 where
  pub indexed : IsIndexed f es births
  pub next_is : (s : ℕ) (slot : RowNode) → f s ≡ Some slot → (node slot).list ≡ list → IsNearest up (seen_by node f) list (above (node slot).key) (node slot).next
  pub there : IfSome link (λ s. IsSomeAnd (f s) (λ slot. (node slot).list ≡ list))
