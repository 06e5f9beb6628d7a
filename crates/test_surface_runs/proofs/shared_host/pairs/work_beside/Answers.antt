use denote.Param.Send.{IsSend, IsSync, param_send, sendable}
use Rattle.std.proofs.Crossing.{crosses}
use Rattle.stop_handlers.specs.contracts.handlers.ByPolicy as ByPolicy
use Rattle.stop_handlers.specs.contracts.handlers.ByPolicyDecider.TheImpl as decider
use Rattle.stop_handlers.specs.contracts.handlers.Handler as Handler
use Rattle.step_types.specs.contracts.step.Step as Step
use Rattle.host_lock.specs.contracts.call_log.VecEntryCallLog.TheImpl as log
use Rattle.host_lock.specs.contracts.host.SharedHost as SharedHost
use Rattle.host_lock.proofs.Crossing.{reply_send, session_send, step_send, entries_row, entries_send, host_sync}
use Rattle.test_surface_runs.proofs.shared_host.pairs.work_beside.Lts.{arg-0-1}
use Rattle.test_surface_runs.proofs.shared_host.pairs.work_beside.Goals as goal

pub join-requires-send-F : goal.join-requires-send-F
join-requires-send-F g c κs within =
    let policy : IsSend ByPolicy.the_row = search (crosses, sendable) depth 80 fits 100000 in
    let step : IsSend (Step.the_row (Handler.the_row ByPolicy.the_row decider.ghosts)) = step_send ByPolicy.the_row decider.ghosts policy in
    let host : IsSync (SharedHost.the_row ByPolicy.the_row entries_row decider.ghosts log.ghosts) = host_sync ByPolicy.the_row entries_row decider.ghosts log.ghosts policy entries_send in
    param_send 1 (arg-0-1 g.row.R g.R.laws g.R.Threads-dict g.R.Wait-dict κs)
    (search (reply_send, session_send, crosses, sendable) depth 80 fits 100000)
