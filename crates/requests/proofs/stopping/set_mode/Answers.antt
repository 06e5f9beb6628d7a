use Rattle.requests.proofs.CommonNames.{◌≡◌, sym, refl, ◌∙◌, subst, lwp_of-tid, change_lwp-at, HasLwp, in_mode, arith, nat_tests}
use Rattle.requests.proofs.StoppedTracee.{lwp_may_change}
use Rattle.requests.proofs.HasLwpAfterChange.{has-lwp_changed}
use Rattle.requests.proofs.stopping.set_mode.Goals as goal

pub set_lwp-requires : goal.set_lwp-requires
set_lwp-requires c = lwp_may_change c.args.tid c.unwrap-l.result c.args.tables.now.rows (sym c.lwp.ensures.row ∙ c.unwrap-l.ensures)

done : (c : goal.After-set_lwp) → c.set_lwp.new.self.rows ≡ in_mode c.args.mode c.args.tid c.args.tables.now.rows
done c = grind (arith, nat_tests, change_lwp-at c.args.tid (λ k. record k { mode = c.args.mode }) c.args.tables.now.rows c.unwrap-l.result c.lwp.ensures.kept.differ (sym c.lwp.ensures.row ∙ c.unwrap-l.ensures) (lwp_of-tid c.args.tid c.unwrap-l.result c.args.tables.now.rows.lwps (sym c.lwp.ensures.row ∙ c.unwrap-l.ensures)))

pub returns-clause-rows : goal.returns-clause-rows
returns-clause-rows c = done c

pub returns-clause-there : goal.returns-clause-there
returns-clause-there c pid at = subst (HasLwp pid c.args.tid) (sym (done c)) (has-lwp_changed c.args.tid (λ k. record k { mode = c.args.mode }) (λ k. refl) (λ k. refl) pid c.args.tid c.args.tables.now.rows at)
