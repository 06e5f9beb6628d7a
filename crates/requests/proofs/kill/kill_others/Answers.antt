use Rattle.requests.proofs.CommonNames.{◌≡◌, true, ◌==◌, sym, ap, ◌∙◌, not, arith, nat_tests}
use Rattle.requests.proofs.KillReaches.{reached_others, rest_unposted}
use Rattle.requests.proofs.kill.kill_others.Goals as goal

pub returns-then-is_none-2 : goal.returns-then-is_none-2
returns-then-is_none-2 c =
    let its = reached_others c.args.settings c.args.pass c.args.user c.args.caller c.next_other-at.result c.args.tables.now.rows c.next_other-at.ensures.kept c.next_other-at.ensures.next (ap (λ b. not b) (c.is_none.ensures ∙ ap (λ b. not b) c.if-is_none.false)) in
    let none : (c.args.pass == 0) ≡ true = grind (arith, nat_tests, c.signal.ensures, c.is_none-2.ensures, c.if-is_none-2.true) in
    record { rows = sym (its.1 ∙ rest_unposted c.args.settings c.args.pass c.args.user c.args.caller none c.next_other-at.result c.args.tables.now.rows); reply = sym its.0 }

pub loop-at-init : goal.loop-at-init
loop-at-init c = grind (arith, nat_tests, reached_others c.args.settings c.args.pass c.args.user c.args.caller c.next_other-at.result c.args.tables.now.rows c.next_other-at.ensures.kept c.next_other-at.ensures.next (ap (λ b. not b) (c.is_none.ensures ∙ ap (λ b. not b) c.if-is_none.false)))
