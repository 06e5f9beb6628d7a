use Rattle.std.proofs.Common.{◌≡◌, [], ◌∷◌, refl, arith, rules, inl, inr}
use Rattle.requests.specs.Isolation.{AlikeSteps, ptraces}
use Rattle.requests.specs.Run.{last}
use Rattle.step_types.specs.declared.step.Step.TheVariants as op
use Rattle.step_types.specs.declared.Request.TheVariants as request
use Rattle.visibility.specs.WorkedRuns.{kills, by}
use Rattle.test_surface.proofs.laws.foreign_attaches.Goals as goal

-- the first user sees neither number
alike : AlikeSteps 1001 (last (by 1001 op.Spawn ∷ by 1002 op.Spawn ∷ by 1001 op.Spawn ∷ []) kills) (op.Ptrace 1000 request.Attach 2000 0) (op.Ptrace 1000 request.Attach 1500 0)
alike = ptraces 1000 1000 request.Attach 2000 1500 0 (inl refl) (inr ((omega arith, refl, refl), (omega arith, refl, refl)))

pub foreign_number-requires-clause-steps : goal.foreign_number-requires-clause-steps
foreign_number-requires-clause-steps c κs =
    let user : c.in_ok-user.user ≡ 1001 = search rules in
    rw (user, c.in_ok-one.ensures, c.attach_to-step.ensures, c.attach_to-also.ensures) alike
