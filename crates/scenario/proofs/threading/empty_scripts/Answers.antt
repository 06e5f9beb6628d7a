use Rattle.std.proofs.Common.{◌≡◌, ◌-◌, map, ap, ◌∙◌, arith, rules}
use Rattle.scenario.proofs.CommonNames.{rising, own_step}
use Rattle.scenario.proofs.ThreadLemmas.{empty_more, unasked}
use Rattle.scenario.proofs.threading.empty_scripts.Goals as goal
use Rattle.scenario.proofs.threading.empty_scripts.Goals.{in-Ok+in_ok-steps+in_ok-push, in_default}

pub loop-number-preserved : goal.loop-number-preserved
loop-number-preserved g c = elim c.match-new.branch [
  | in-Ok+in_ok-steps+in_ok-push w ↦ rw (w.scripts-is, w.in_ok-push.ensures.items)
      (empty_more c.loop-number.scripts.items (record { uid = w.in-Ok.uid; steps = w.in_ok-steps.steps; report = tt }) c.loop-number.number c.loop-number.auto.number (search rules) (ap (map own_step) w.in_ok-steps.ensures.items) c.loop-number.invariant)
  | in_default w ↦ let least = c.loop-number.auto.number in let most = c.loop-number-test.true in absurd (w.in_default.ensures (omega arith, omega arith))
]

pub returns : goal.returns
returns g c =
    let least = c.loop-number.auto.number-end in
    let all : c.loop-number.number - 1001 ≡ 64 = omega arith in
    c.loop-number.invariant ∙ ap (λ n. map unasked (rising n 1001)) all
