use Rattle.scenario_text.proofs.CommonNames.{refl, ap, ◌∙◌, subst, arith, no_members, put, integer, IsNamed}
use Rattle.scenario_text.proofs.{Plans.short_list, Plans.with_steps, Plans.with_kill, Plans.with_other, ReadLoops.first_member, ReadLoops.more_members, ReadLoops.atom_is}
use Rattle.scenario_text.proofs.parsing.read_scenario_members.Goals as goal

pub members-init : goal.members-init
members-init c = (no_members, first_member _ _, record { steps_are = refl; kill_is = refl; alone_is = refl })

pub members-preserved-in-Steps : goal.members-preserved-in-Steps
members-preserved-in-Steps c =
    let l = c.members in
    let k = c.in-Some.name.now in
    let was = c.in_ok-steps-in-Steps.ensures.steps in
    let same = subst (λ x. IsNamed x k) c.in-Steps.is c.scenario_key.ensures in (
      put k was.0 l.invariant.0,
      more_members _ _ _ _ l.invariant.1 _ _ k was.0 (grind arith) was.1 c.in_ok-steps-in-Steps.ensures.shorter,
      rw same (with_steps _ l.steps l.kill l.is_alone l.invariant.0 was.0 l.invariant.2 was.2),
    )

pub members-preserved-in-KillOnDebuggerExit : goal.members-preserved-in-KillOnDebuggerExit
members-preserved-in-KillOnDebuggerExit c =
    let l = c.members in
    let k = c.in-Some.name.now in
    let was = c.in_ok-atom-in-KillOnDebuggerExit.ensures.ok in
    let same = subst (λ x. IsNamed x k) c.in-KillOnDebuggerExit.is c.scenario_key.ensures in (
      put k was.0 l.invariant.0,
      more_members _ _ _ _ l.invariant.1 _ _ k was.0 (grind arith) was.1 c.in_ok-atom-in-KillOnDebuggerExit.ensures.shorter,
      rw same (with_kill l.steps l.kill _ l.is_alone l.invariant.0 was.0 l.invariant.2 (c.integer-kill.ensures ∙ ap integer (atom_is _ was.0 was.2))),
    )

pub members-preserved : goal.members-preserved
members-preserved c =
    let l = c.members in
    let k = c.in-Some.name.now in
    let was = c.in_ok-pass_value-in-Other.ensures.ok in
    let other = subst (λ x. IsNamed x k) c.in-Other.is c.scenario_key.ensures in (
      put k was.0 l.invariant.0,
      more_members _ _ _ _ l.invariant.1 _ _ k was.0 (grind arith) was.1 c.in_ok-pass_value-in-Other.ensures.shorter,
      with_other l.steps l.kill l.is_alone l.invariant.0 k was.0 l.invariant.2 other.0 other.1,
    )

pub scenario_of-requires : goal.scenario_of-requires
scenario_of-requires c = short_list c.members.steps _ c.members.invariant.2.steps_are
