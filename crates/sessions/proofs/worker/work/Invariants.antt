use Rattle.std.proofs.Common.{◌≡◌, ◌+◌, ◌≤◌, ◌++◌, List, map, length}
use Rattle.sessions.proofs.CommonNames.{into_iter_items, max_calls, own_step, HasMade}
use Rattle.step_types.specs.declared.Reply.{Reply}
use Rattle.sessions.proofs.worker.work.Given as goal

abbrev pub invariant-loop-step : goal.invariant-loop-step
invariant-loop-step g l =
    let left = into_iter_items l.step-iterator in record {
      split : l.yielded ++ left ≡ l.fn.steps.items;
      replies : List Reply;
      did : HasMade l.fn.session (map own_step l.yielded) replies l.session;
      few : length l.yielded + length left ≤ max_calls;
      drafted : g.T.Report.drafted l.draft l.fn.report.value l.fn.session.uid (length left) replies;
    }
