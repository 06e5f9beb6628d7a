use Rattle.std.proofs.Common.{arith}
use Rattle.lwp_table.proofs.PlaceLemmas.{none_placed}
use Rattle.proc_table.proofs.Bits.{no_member}
use Rattle.proc_table.proofs.bit_sets.NumberSet.new.Goals as goal

pub invariant_of-result : goal.invariant_of-result
invariant_of-result c = rw c.new.ensures.items (record { placed = none_placed; full = λ i within. absurd (omega (arith, within)) })

pub returns : goal.returns
returns c = rw c.new.ensures.items no_member
