use Rattle.requests.proofs.CommonNames.{rules, refl, sym, ◌∙◌}
use Rattle.requests.proofs.StoppedTracee.{lwp_may_change, lwp_changed}
use Rattle.requests.proofs.ptrace.suspend.Goals as goal

pub set_lwp-requires : goal.set_lwp-requires
set_lwp-requires c = lwp_may_change c.args.lwp c.in-Some.row c.args.tables.now.rows (sym c.lwp.ensures.row ∙ c.in-Some.is)

pub returns : goal.returns
returns c = record { rows = lwp_changed c.args.lwp (λ l. record l { suspended = c.args.suspended }) c.in-Some.row c.args.tables.now.rows _ (λ l. refl) c.lwp.ensures.kept.differ (sym c.lwp.ensures.row ∙ c.in-Some.is) c.set_lwp.ensures.rows; reply = search rules }
