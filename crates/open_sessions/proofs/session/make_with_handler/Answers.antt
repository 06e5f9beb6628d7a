use Rattle.{std.proofs.Common.subst, requests.specs.Hosts.Steps}
use Rattle.open_sessions.proofs.session.make_with_handler.Goals as goal

pub returns : goal.returns
returns c = subst (λ s. Steps c.args.user s c.args.host.now c.step.new.self c.step.result) c.by_policy.ensures c.step.ensures
