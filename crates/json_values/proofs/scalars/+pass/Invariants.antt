use Rattle.json_values.proofs.CommonNames.{◌≡◌, ℕ, ◌+◌, ◌*◌, ◌≤◌, length, items, members, value, Members, of_items, of_members, converted, read_items, read_members, rest}
use Rattle.json_values.proofs.scalars.+pass.Given as goal

abbrev pub decreases-next_scalar : goal.decreases-next_scalar
decreases-next_scalar l = 3 * l.depth + 1

abbrev pub decreases-uncommon_scalar : goal.decreases-uncommon_scalar
decreases-uncommon_scalar l = 3 * l.depth

abbrev pub decreases-pass_items : goal.decreases-pass_items
decreases-pass_items l = 3 * l.depth + 2

abbrev pub decreases-pass_members : goal.decreases-pass_members
decreases-pass_members l = 3 * l.depth + 2

abbrev pub invariant-pass_items-loop-reader : goal.invariant-pass_items-loop-reader
invariant-pass_items-loop-reader l =
    (n : ℕ) × (length l.reader ≤ n) × (rest (read_items l.depth l.initial.reader) ≡ rest (converted of_items (items (value l.depth) n l.reader))) × (length l.reader ≤ length l.initial.reader)

abbrev pub decreases-pass_items-loop-reader : goal.decreases-pass_items-loop-reader
decreases-pass_items-loop-reader l = length l.reader

abbrev pub invariant-pass_members-loop-reader : goal.invariant-pass_members-loop-reader
invariant-pass_members-loop-reader l =
    (n : ℕ) × (found : Members) × (length l.reader ≤ n) × (read_members l.depth l.initial.reader ≡ converted (λ ms. of_members ms found) (members (value l.depth) n l.reader)) × (length l.reader ≤ length l.initial.reader)

abbrev pub decreases-pass_members-loop-reader : goal.decreases-pass_members-loop-reader
decreases-pass_members-loop-reader l = length l.reader
