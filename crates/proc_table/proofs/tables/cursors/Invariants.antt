use Rattle.proc_table.proofs.CommonNames.{◌≡◌, ◌+◌, ◌*◌, ◌-◌, ◌++◌, map, replicate, slot, rising}
use Rattle.proc_table.proofs.tables.cursors.Given as goal

abbrev pub invariant-loop-user : goal.invariant-loop-user
invariant-loop-user l = l.numbers ≡ map (λ u. l.first + l.step * slot u) (rising l.user 1001) ++ replicate (64 - l.user) 0
