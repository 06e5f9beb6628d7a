use Rattle.requests.proofs.CommonNames.{◌<◌, ◌≤◌, length, refl, subst, Machine, installed_by, machine_of, Step, Steps, arith, nat_tests}
use Rattle.requests.proofs.HostSteps.{host_barred, host_full, host_installed, host_wants}
use Rattle.requests.proofs.host.Host.install.Given.{Over}
use Rattle.requests.proofs.host.Host.install.Goals.{in-Ok-install, in-Err-install}
use Rattle.requests.proofs.host.Host.install.Goals as goal

pub returns-in-Err : goal.returns-in-Err
returns-in-Err g c = rw (c.reply.ensures) (host_barred c.self.view_is c.requires c.self.invariant refl refl c.in-Err.ensures.barred)

pub returns-then-count-ge-MAX_HANDLERS : goal.returns-then-count-ge-MAX_HANDLERS
returns-then-count-ge-MAX_HANDLERS g c = grind (arith, nat_tests, host_full c.self.view_is c.requires c.self.invariant c.in-Ok.ensures.found c.args.handler (subst (λ (x : Machine). 64 ≤ length (installed_by c.args.user x)) c.self.view_is (subst (λ n. 64 ≤ n) c.count.ensures c.if-count-ge-MAX_HANDLERS.true)))

done : (g : Over) (c : goal.Joined-install g) → Steps c.args.user (Step.Install c.args.number c.args.handler) (machine_of c.self.inside.settings c.self.inside.tables c.self.inside.handlers)
    (machine_of c.self.inside.settings c.self.inside.tables c.install.new.self) c.match-install.result
done g c =
    let h : Machine = machine_of c.self.inside.settings c.self.inside.tables c.self.inside.handlers in
    let few : length (installed_by c.args.user h) < 64 = subst (λ n. n < 64) c.count.ensures c.if-count-ge-MAX_HANDLERS.false in
    elim c.match-install.branch [
      | in-Ok-install w ↦ rw w.result-is (host_installed c.self.view_is c.requires c.self.invariant c.in-Ok.ensures.found c.args.handler {xs = c.install.new.self} few w.in-Ok-install.ensures.done)
      | in-Err-install w ↦ rw w.result-is (host_wants c.self.view_is c.requires c.self.invariant c.in-Ok.ensures.found c.args.handler {xs = c.install.new.self} few w.in-Err-install.ensures.refused)
    ]

pub invariant_of-self : goal.invariant_of-self
invariant_of-self g c = (done g c).sound

pub returns : goal.returns
returns g c = rw (← c.self.view_is) (done g c)
