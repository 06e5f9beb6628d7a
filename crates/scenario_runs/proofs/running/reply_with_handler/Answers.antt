use Rattle.scenario_runs.proofs.CommonNames.{into_iter_items}
use Rattle.scenario_runs.proofs.BindLemmas.{made_bound, none_bound}
use Rattle.scenario_runs.proofs.running.reply_with_handler.Goals as goal

pub returns-in_err-step : goal.returns-in_err-step
returns-in_err-step g c = rw c.from_residual.ensures
    (none_bound c.args.user c.args.bare_step.now (into_iter_items c.args.handlers.now) (into_iter_items c.step_with_handler.new.handlers) c.step_with_handler.result
    c.args.host.now c.step_with_handler.ensures c.in_err-step.was)

pub returns : goal.returns
returns g c =
    made_bound c.args.user c.args.bare_step.now (into_iter_items c.args.handlers.now) (into_iter_items c.step_with_handler.new.handlers) c.in_ok-step.step c.step_with_handler.result
    c.args.host.now c.step.new.self c.step.result c.step_with_handler.ensures c.in_ok-step.was c.step.ensures
