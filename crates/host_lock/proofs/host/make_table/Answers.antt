use Rattle.host_lock.proofs.CommonNames.{◌≡◌, ◌∙◌, length, rules, sym, subst, ap, [], ◌∷◌, ◌++◌, List, arith, opening, Machine, history, SharedInvariant, opening_view, fresh_view, HostSlot, Present}
use Rattle.host_lock.proofs.Turns.{opens}
use Rattle.host_lock.proofs.host.make_table.Goals as goal

pub new-requires : goal.new-requires
new-requires g c =
    let h = c.of.result.value in
    let items : c.push_reserved.new.self.items ≡ Present (history h []) ∷ [] = search rules in
    subst (λ (xs : List (HostSlot g.row.F.Denot g.row.J.Denot)). SharedInvariant h c.args.sessions (opening (0 ∷ 0 ∷ 0 ∷ []) xs (opening_view h c.args.sessions))) (sym items) (opens h c.args.sessions (omega arith))

pub returns-in-Ok-clause-table : goal.returns-in-Ok-clause-table
returns-in-Ok-clause-table g c =
    let e = c.in-Ok.ensures.ok in
    let one = ap length c.push_reserved.ensures.items ∙ ap (λ (l : List (HostSlot g.row.F.Denot g.row.J.Denot)). length (l ++ Present c.in_ok-state.state ∷ [])) c.in_ok-slots.ensures.items in
    ((e.0, e.1 ∙ one), ap (λ k. k.start.value) e.5 ∙ c.of.ensures, ap (λ k. k.sessions) e.5)

pub returns-in-Ok-clause-seat : goal.returns-in-Ok-clause-seat
returns-in-Ok-clause-seat g c =
    let e = c.in-Ok.ensures.ok in
    (e.2, e.4 ∙ ap (λ (h : Machine). (fresh_view h 0 c.args.sessions, [])) c.of.ensures)
