use Rattle.scenario_runs.proofs.CommonNames.{subst, into_iter_items, IsAnswered}
use Rattle.scenario_runs.proofs.BindLemmas.{needs_none, nothing_made}
use Rattle.scenario_runs.proofs.running.reply_of.Goals as goal

pub returns-in-Some : goal.returns-in-Some
returns-in-Some g c = needs_none c.args.user c.args.bare_step.now (into_iter_items c.args.handlers.now) c.args.host.now c.step_without_handler.new.self c.in-Some.reply c.in-Some.ensures

pub returns : goal.returns
returns g c =
    let same = nothing_made c.args.user _ c.args.host.now c.step_without_handler.new.self c.in_default.ensures in
    subst (λ from. IsAnswered c.args.user c.args.bare_step.now (into_iter_items c.args.handlers.now) (into_iter_items c.reply_with_handler.new.handlers) from c.reply_with_handler.new.host c.reply_with_handler.result)
    same c.reply_with_handler.ensures
