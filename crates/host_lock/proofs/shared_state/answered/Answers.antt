use Rattle.host_lock.proofs.Memories.{steps, wanted, listed}
use Rattle.host_lock.proofs.shared_state.answered.Goals as goal

pub returns-clause-made : goal.returns-clause-made
returns-clause-made g c = λ plenty.
    let did = steps c.args.user (g.H.OwnHandler.plain c.args.step) c.args.host.now c.make.new.host c.make.result plenty c.make.ensures.machine in
    (did.1, did.0)

pub returns-clause-memory : goal.returns-clause-memory
returns-clause-memory g c = λ told. wanted c.args.host.now c.make.new.host c.make.result told (λ e. (c.make.ensures.memory e).0)

pub returns-clause-list : goal.returns-clause-list
returns-clause-list g c = λ plenty lists. listed c.args.user (g.H.OwnHandler.plain c.args.step) c.args.host.now c.make.new.host c.make.result c.assert_invariant.ensures plenty lists c.make.ensures.machine
