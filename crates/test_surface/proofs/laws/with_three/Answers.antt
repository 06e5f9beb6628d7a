use Rattle.std.proofs.Common.{◌≡◌, ℕ, ap₂, ◌∙◌, rules}
use Rattle.requests.specs.Isolation.{host_after}
use Rattle.requests.specs.Machine.{Machine}
use Rattle.step_types.specs.declared.step.Step.TheVariants as op
use Rattle.visibility.specs.WorkedRuns.{kills}
use Rattle.test_surface.proofs.laws.with_three.Goals as goal

after : (u v : ℕ) (m k h : Machine) → h ≡ host_after u op.Spawn m → u ≡ v → m ≡ k → h ≡ host_after v op.Spawn k
after u v m k h is same left = is ∙ ap₂ (λ (w : ℕ) (n : Machine). host_after w op.Spawn n) same left

pub returns : goal.returns
returns c =
    let first : c.in_ok-first.first ≡ 1001 = search rules in
    let second : c.in_ok-second.second ≡ 1002 = search rules in
    let one = after c.in_ok-first.first 1001 c.in_ok-host.host kills c.spawn.new.host c.in_ok-spawn.ensures first c.in_ok-host.ensures in
    let two = after c.in_ok-second.second 1002 c.spawn.new.host (host_after 1001 op.Spawn kills) c.spawn-2.new.host c.in_ok-spawn-2.ensures second one in
    after c.in_ok-first.first 1001 c.spawn-2.new.host (host_after 1002 op.Spawn (host_after 1001 op.Spawn kills)) c.spawn-3.new.host c.in_ok-spawn-3.ensures first two
