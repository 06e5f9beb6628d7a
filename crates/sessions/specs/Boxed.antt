-- Scripts whose handlers are on the heap, as the scripts that they mean.
use Rattle.std.specs.{Prelude.{ℕ, List, map, Vec}, Global.Global}
use Rattle.{host_lock.specs.Boxed.{SmallStep, own_step}, sessions.specs.declared.boxing.BoxedScript.BoxedScript}
use Rattle.step_types.specs.Plain.{PlainStep}
use Rattle.sessions.specs.{declared.boxing.AnyScript.{AnyScript, TheVariants.{InSteps, OnHeap}}, Runs.plain_script}

abbrev pub boxed_script : {F T : Type 0} → BoxedScript F T → ℕ × List PlainStep
boxed_script s = (s.uid, map own_step s.steps.items)

abbrev pub any_script : {F T : Type 0} → AnyScript F T → ℕ × List PlainStep
any_script (InSteps s r) = plain_script s
any_script (OnHeap s) = boxed_script s

abbrev pub report_of : {F T : Type 0} → BoxedScript F T → T
report_of s = s.report

abbrev pub any_report : {F T : Type 0} → AnyScript F T → T
any_report (InSteps s r) = r
any_report (OnHeap s) = report_of s

abbrev pub uid_of : {F T : Type 0} → BoxedScript F T → ℕ
uid_of s = s.uid

abbrev pub steps_of : {F T : Type 0} → BoxedScript F T → Vec SmallStep Global
steps_of s = s.steps
