use Rattle.proc_table.proofs.CommonNames.{nat_tests, ◌≡◌, ℕ, ◌+◌, ◌-◌, ◌<◌, arith, Option, Some, sym, ap, ◌∙◌, SomeIff, pid_block, InBlock, ProcData, next_of}
use Rattle.std.specs.Prelude.{option_map}
use Rattle.proc_table.proofs.NextOf.{next_of-found, next_of-none, uid-from_block}
use Rattle.proc_table.proofs.Rows.{process_of-pid}
use Rattle.proc_table.proofs.Indexed.{absent, present}
use Rattle.proc_table.proofs.tables.Tables.next_pid.Goals as goal

known : (o : Option ℕ) (P : Type 0) (n : ℕ) → SomeIff o P n → P → o ≡ Some n
known o P n h holds = grind (arith, nat_tests)

pub returns-in_err-place-clause-next : goal.returns-in_err-place-clause-next
returns-in_err-place-clause-next c =
    let has = c.self.invariant in
    let none = next_of-none c.args.uid c.args.after c.self.inside.processes.rows has.kept.rising has.kept.in_own_blocks
    (λ k more its. absent c.self.inside.pids.pages c.self.inside.processes.rows has.numbers k (grind (arith, nat_tests)) (grind (arith, nat_tests, c.in_err-place.ensures.none (k - 1000)))) in
    grind (arith, nat_tests)

pub returns-clause-next : goal.returns-clause-next
returns-clause-next c =
    let has = c.self.invariant in
    let ps = c.self.inside.processes.rows in
    let user = c.next_in.ensures.user in
    let found = c.in_ok-place.ensures.some in
    let number = 1000 + c.in_ok-place.place in
    let row = present c.self.inside.pids.pages ps has.numbers c.in_ok-place.place found.2 in
    let above : c.args.after < number = omega (arith, found.0) in
    let own : InBlock (pid_block c.args.uid) number = (omega (arith, found.1.0), omega (arith, found.1.1)) in
    let taken : c.new.result ≡ Some number = known c.new.result _ number c.new.ensures (omega arith, omega (arith, own.1, user)) in
    taken ∙ ap Some (sym (process_of-pid number row.0 ps row.1))
    ∙ ap (option_map (λ (p : ProcData). p.pid)) (sym (next_of-found c.args.uid c.args.after ps has.kept.rising has.kept.in_own_blocks number row.0 row.1
    (uid-from_block c.args.uid number row.0 ps user has.kept.in_own_blocks row.1 own) above
    (λ k more its less. absent c.self.inside.pids.pages ps has.numbers k (omega (arith, its.0, user))
    (found.3 (k - 1000) (omega (arith, more, its.0, user)) (omega (arith, its.0), omega (arith, its.0, its.1)) (omega (arith, less, its.0, user))))))
    ∙ ap (λ v. option_map (λ (p : ProcData). p.pid) (next_of c.args.uid c.args.after v.rows.processes)) c.self.view_is
