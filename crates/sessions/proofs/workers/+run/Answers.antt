use Rattle.std.proofs.Common.{rules, ◌≡◌, ◌++◌, [], ◌∷◌, map, Vec, Global, sym, subst, ◌∙◌, arith}
use denote.Param.{param}
use denote.Param.Send.{IsSend, IsSync, param_send, sendable}
use Rattle.std.proofs.Crossing.{crosses}
use Rattle.stop_handlers.specs.contracts.handlers.Handler as Handler
use Rattle.sessions.proofs.CommonNames.{SmallStep, own_step, SessionData, SessionScript, HasMade, AllDone, IsDone}
use Rattle.host_lock.specs.contracts.host.SharedHost as SharedHost
use Rattle.host_lock.proofs.Crossing.{reply_send, session_send, handler_send, host_sync}
use Rattle.sessions.specs.declared.session_script.WorkerPromise.{WorkerPromise}
use Rattle.sessions.proofs.Scripts.{pairs_more}
use Rattle.sessions.proofs.workers.+run.Lts-fn-run_beside-scope.{arg-0-2}
use Rattle.sessions.proofs.workers.+run.Goals as goal

pub run_beside-scope-returns : goal.run_beside-scope-returns
run_beside-scope-returns g t c =
    let made_of = g.T.Report.made_of in
    let tells = g.T.Report.tells in
    let job : SessionScript g.row.F.Denot g.row.T.Denot g.row.T-Draft.Denot = record { session = c.captures.session; steps = c.captures.steps; report = c.captures.report; draft = c.captures.draft } in
    let one = c.join-one.result in
    let same : c.in_ok-child.child.promise ≡ c.captures.plan = search rules in
    let Q : SessionData × Vec SmallStep Global × g.row.T.Denot → Type 0 = λ z. HasMade z.0 (map own_step z.1.items) (made_of one.output) one.session × tells z.2 z.0.uid one.output in
    let P : WorkerPromise g.row.F.Denot g.row.T.Denot → Type 0 = λ p. Q (p.session.value, p.steps.value, p.report.value.value) in
    let did : IsDone made_of tells job one = subst Q (λ i. (c.requires.plan.0 i, c.requires.plan.1 i, (c.requires.plan.2 i).value)) (subst P same c.join-one.ensures) in
    let len = c.in_ok-all.ensures.room.0 in
    let more = c.push_reserved.ensures.len in record {
      room = (omega arith, c.push_reserved.ensures.capacity ∙ c.in_ok-all.ensures.room.1);
      done = subst (AllDone made_of tells (c.captures.jobs.items ++ job ∷ [])) (sym c.push_reserved.ensures.items) (pairs_more (IsDone made_of tells) c.captures.jobs.items c.in_ok-all.all.items job one c.in_ok-all.ensures.done did);
    }

pub run_beside-scope-spawn_with-requires-send-F : goal.run_beside-scope-spawn_with-requires-send-F
run_beside-scope-spawn_with-requires-send-F g t c κs within =
    let r : IsSync (param 4 g.row.R) = c.requires.sync.0 in
    let handler : IsSend (Handler.the_row (param 0 g.row.F) g.F.Decider) = handler_send (param 0 g.row.F) g.F.Decider c.requires.send.0 in
    let host : IsSync (SharedHost.the_row (param 0 g.row.F) (param 1 g.row.J) g.F.Decider g.J.CallLog) = host_sync (param 0 g.row.F) (param 1 g.row.J) g.F.Decider g.J.CallLog c.requires.send.0 c.requires.send.1 in
    let gate : IsSync (param 3 g.row.G) = c.requires.sync.1 in
    let draft : IsSend (param 5 g.row.T-Draft) = c.requires.send.2 in
    param_send 2 (arg-0-2 g.row.F g.row.J g.row.T g.row.G g.row.R g.row.T-Draft g.row.T-Output g.F.laws g.J.laws g.T.laws g.G.laws g.R.laws g.T.Draft.laws g.T.Output.laws g.F.Decider g.F.Decider-dict g.J.CallLog g.J.CallLog-dict g.T.Report g.T.Report-dict g.G.Gate g.G.Gate-dict g.R.Threads g.R.Threads-dict g.R.Wait g.R.Wait-dict g.F.Destruct-dict g.J.Destruct-dict g.T.Destruct-dict g.T.Draft.Destruct-dict g.T.Output.Destruct-dict κs)
    (search (reply_send, session_send, crosses, sendable) depth 80 fits 100000)

pub run_beside-scope-spawn_with-requires-clause-runs : goal.run_beside-scope-spawn_with-requires-clause-runs
run_beside-scope-spawn_with-requires-clause-runs g t c κs within =
    (c.requires.of, (c.requires.fresh, (c.requires.few, (c.requires.begun, (search rules, search rules, search rules, search rules, search rules, search rules, search rules)))))
