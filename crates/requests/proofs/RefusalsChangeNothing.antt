-- A refused step changes nothing, none is out of memory, and each ends only processes that it may end.
use Rattle.requests.proofs.CommonNames.{ℕ, ◌||◌, Option, Some, None, refl, sym, ap, ◌∙◌, true≢false, ESRCH, ProcData, visible_process, PlainStep, Reply, answers, refuses, arith, nat_tests}
use Rattle.requests.proofs.CommonNames.{room_for_process, turn, spawn, Machine, is_refusal, is_memory, checked, step, step_of, subst, Step, may_end, or_true}
use Rattle.requests.specs.Refusals.{RefusalChangesNothing, NoReportChangesNothing, NoStepRunsOutOfMemory, ListingSame}
use Rattle.step_types.specs.Replies.{is_listing}
use Rattle.requests.proofs.SoundAfterCall.{choose}
use Rattle.requests.proofs.PerStep.{by_step, calls_fair}
use Rattle.requests.proofs.Outcomes.{is_nothing, keeps, left, turn_fair, spawn_fair, hosted, FairStep}

checked_fair : (u : ℕ) (s : PlainStep) (o : Option ProcData) (m : Machine) → FairStep s m (checked u s o m)
checked_fair u s None m = hosted s m (refuses ESRCH m.rows) (left (may_end s) m.rows (Reply.Errno ESRCH) refl)
checked_fair u s (Some p) m = grind (arith, nat_tests, choose, hosted s m (refuses ESRCH m.rows) (left (may_end s) m.rows (Reply.Errno ESRCH) refl), hosted s m (answers Reply.Held m.rows) (left (may_end s) m.rows Reply.Held refl), calls_fair u s p m)

pub step_fair : (u : ℕ) (s : PlainStep) (m : Machine) → FairStep s m (step u s m)
step_fair u s m = grind (arith, nat_tests, by_step (λ s. FairStep s m (step u s m)) (hosted Step.Spawn m (spawn u m.rows) (spawn_fair u m.rows (room_for_process u m.rows))) (λ tid a. hosted (Step.Turn tid a) m (turn m.settings u tid a m.rows) (turn_fair m.settings u tid a m.rows)) (λ s n by. subst (λ o. FairStep s m (step_of u s m o)) (sym by) (checked_fair u s (visible_process u n m.rows) m)) s, hosted, turn_fair, checked_fair)

pub a_refusal_changes_nothing : RefusalChangesNothing
a_refusal_changes_nothing u s m user is refused = (step_fair u s m).same is (ap (λ b. b || (is_listing (step u s m).reply || is_nothing (step u s m).reply)) refused)

pub listing_same : ListingSame
listing_same u s m is listed = (step_fair u s m).same is (ap (λ b. is_refusal (step u s m).reply || (b || is_nothing (step u s m).reply)) listed ∙ or_true (is_refusal (step u s m).reply))

pub no_report_changes_nothing : NoReportChangesNothing
no_report_changes_nothing u s m is none = (step_fair u s m).same is (ap keeps none)

pub no_step_runs_out_of_memory : NoStepRunsOutOfMemory
no_step_runs_out_of_memory u s m memory = true≢false (sym (ap is_memory memory) ∙ (step_fair u s m).plenty)
