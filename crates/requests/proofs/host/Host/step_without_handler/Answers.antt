use Rattle.requests.proofs.CommonNames.{arith, nat_tests}
use Rattle.requests.proofs.PerStep.{made_bare, other_kind}
use Rattle.requests.proofs.host.Host.step_without_handler.Goals as goal

pub returns : goal.returns
returns g c = grind (arith, nat_tests, made_bare c.args.user c.args.step.now c.args.self.now c.make.new.self c.make.result (other_kind c.args.step.now (λ n own is. c.in_default.not-Install n own is)) c.make.ensures)
