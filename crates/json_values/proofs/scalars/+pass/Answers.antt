use Rattle.json_values.proofs.CommonNames.{nat_tests, ◌≡◌, ◌-◌, length, Some, refl, ◌∙◌, arith, read_key, value, read_key-shorter, no_members}
use Rattle.json_values.proofs.Loops.{pass_item, pass_member}
use Rattle.json_values.proofs.scalars.+pass.Goals as goal

pub pass_items-loop-reader-preserved : goal.pass_items-loop-reader-preserved
pass_items-loop-reader-preserved t c = grind (arith, nat_tests, pass_item)

pub pass_members-loop-reader-init : goal.pass_members-loop-reader-init
pass_members-loop-reader-init t c = (length c.args.reader.now, no_members, omega arith, refl, omega arith)

pub pass_members-loop-reader-preserved : goal.pass_members-loop-reader-preserved
pass_members-loop-reader-preserved t c =
    let p = value c.args.depth in
    let l = c.loop-reader in
    let n = l.invariant.0 in
    let k = c.in-Some.field-0.now in
    let s = c.next_key.new.self in
    let key : read_key l.reader ≡ Some (Some k, s) = grind arith in
    let less = read_key-shorter l.reader (Some k) s key in
    let lesser = c.in_ok-next_scalar.ensures.shorter in
    let was = c.in_ok-next_scalar.ensures.ok in
    (n - 1, _, omega (arith, l.invariant.2), l.invariant.3 ∙ pass_member p l.invariant.1 n k l.reader s _ was.0 (omega (arith, l.invariant.2)) key was.1, omega (arith, l.invariant.4))
