use Rattle.requests.proofs.CommonNames.{◌≡◌, refl, sym, ◌∙◌, rules, LwpData, ProcData, Rows, change_lwp, TableInvariant, set_lwp, change_lwp-at, IsActing, Due, arith, nat_tests}
use Rattle.requests.proofs.HasLwpAfterChange.{acting_has, has-lwp_changed}
use Rattle.requests.proofs.turn.take_due.Goals as goal

-- the due stop is gone
gone : (p : ProcData) (l : LwpData) (rows rows' : Rows) → TableInvariant rows → IsActing p l rows → rows' ≡ set_lwp (record l { due = Due.Nothing }) rows → rows' ≡ change_lwp l.tid (λ k. record k { due = Due.Nothing }) rows
gone p l rows rows' kept a set = set ∙ sym (change_lwp-at l.tid (λ k. record k { due = Due.Nothing }) rows l kept.differ a.lwp refl)

pub stop_with-requires : goal.stop_with-requires
stop_with-requires c = grind (arith, nat_tests, gone c.args.p.now c.args.l.now c.args.tables.now.rows c.set_lwp.new.self.rows c.assert_invariant.ensures c.requires c.set_lwp.ensures.rows, has-lwp_changed c.args.l.now.tid (λ k. record k { due = Due.Nothing }) (λ k. refl) (λ k. refl) c.args.p.now.pid c.args.l.now.tid c.args.tables.now.rows (acting_has c.args.p.now c.args.l.now c.args.tables.now.rows c.requires))

pub returns : goal.returns
returns c = rw (sym c.due_stop.ensures ∙ c.in-Some.is) (record { rows = search (rules, gone); reply = search rules })
