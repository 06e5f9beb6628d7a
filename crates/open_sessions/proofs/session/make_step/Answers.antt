use Rattle.{std.proofs.Common.subst, requests.{specs.Hosts.Steps, proofs.PerStep.steps_made}, scenario_runs.proofs.BindLemmas.nothing_made}
use Rattle.open_sessions.proofs.session.make_step.Goals as goal

pub returns-in-Some : goal.returns-in-Some
returns-in-Some c = steps_made _ _ _ _ _ c.in-Some.ensures

pub returns-in-None : goal.returns-in-None
returns-in-None c =
    let kept = nothing_made _ _ _ _ c.in-None.ensures in
    subst (λ m. Steps c.args.user c.args.step.now m c.make_with_handler.new.host c.make_with_handler.result) kept c.make_with_handler.ensures
