use Rattle.std.proofs.Common.{◌≡◌, ℕ, ◌+◌, [], ◌∷◌, ◌++◌, List, map, length, filter, get_or, drop, Some, None, option_map, refl, ap, sym, subst, ◌∙◌, arith, rules}
use Rattle.scenario.proofs.CommonNames.{into_iter_items, length-map, map-append, set, slot, users, BoxedScript, boxed_script, own_step, PlainStep, Users, with_policies, first_policy, policies_in, with_installed, has_steps}
use Rattle.std.proofs.lemmas.Fn.{filter_same}
use Rattle.visibility.proofs.Answered.{map-push, Users-push}
use Rattle.scenario_text.specs.Plan.{asked}
use Rattle.scenario_text.proofs.WithPoliciesLemmas.{length_with_policies}
use Rattle.scenario_runs.proofs.BindLemmas.{all_bound, bound_there, each_next, with_policies_next, first_before, one_bound}
use Rattle.scenario.proofs.ScriptLemmas.{script_of}
use Rattle.scenario.proofs.ThreadLemmas.{step_added, kept_scripts}
use Rattle.scenario.proofs.threading.scripts_of.Goals as goal

pub loop-bare_step-init : goal.loop-bare_step-init
loop-bare_step-init g c =
    let handlers = c.into_iter-rest.ensures.rest ∙ c.requires in
    let steps = ap (with_policies c.bare_steps-bare_steps.result.now) handlers ∙ c.bare_steps-bare_steps.ensures.steps in
    ([], steps, ap policies_in steps ∙ sym handlers, tt, c.in_ok-scripts.ensures)

pub index_mut-requires : goal.index_mut-requires
index_mut-requires g c =
    let long : length c.loop-bare_step.scripts.items ≡ 64 = sym (length-map c.loop-bare_step.scripts.items boxed_script) ∙ ap length c.loop-bare_step.invariant.4 in
    omega (arith, long, c.loop-bare_step.scripts.ok.0, c.slot.ensures.below)

pub unreachable-requires : goal.unreachable-requires
unreachable-requires g c =
    let at = c.loop-bare_step in
    let had = into_iter_items at.rest in
    let x = c.bare_step-item.result in
    let bound = bound_there x.1 had _ _ _ c.in_ok-small.ensures (first_before c.bare_steps-bare_steps.result.now at.bare_step-index x had had c.loop-bare_step-test.true (sym c.bare_step-item.is) at.invariant.2) in
    let none : None ≡ Some (with_installed (first_policy had) x.1) = ap (option_map own_step) (sym c.in_default.is) ∙ bound.1 in
    absurd (cc)

pub loop-bare_step-preserved : goal.loop-bare_step-preserved
loop-bare_step-preserved g c =
    let at = c.loop-bare_step in
    let inv = at.invariant in
    let done : List (ℕ × PlainStep) = inv.0 in
    let ss = c.bare_steps-bare_steps.result.now in
    let x = c.bare_step-item.result in
    let had = into_iter_items at.rest in
    let left = into_iter_items c.small_step.new.handlers in
    let more = c.loop-bare_step-test.true in
    let here = sym c.bare_step-item.is in
    let bound = bound_there x.1 had left _ _ c.in_ok-small.ensures (first_before ss at.bare_step-index x had left more here inv.2) in
    let step = with_installed (first_policy had) x.1 in
    let bare = own_step c.in-Some.small in
    let same : Some bare ≡ Some step = ap (option_map own_step) (sym c.in-Some.is) ∙ bound.1 in
    let entry : ℕ × PlainStep = (x.0, bare) in
    let old = c.index_mut.result.now in
    let new : BoxedScript g.row.F.Denot (Unit {0}) = record { uid = old.uid; steps = c.push.new.self; report = old.report } in
    let longer : map own_step new.steps.items ≡ map own_step old.steps.items ++ bare ∷ [] =
    ap (map own_step) c.in_ok-push.ensures.items ∙ map-append own_step old.steps.items (c.in-Some.small ∷ []) in
    let was : old ≡ get_or at.scripts.items (slot x.0) old = c.index_mut.ensures.value ∙ ap (λ k. get_or at.scripts.items k old) c.slot.ensures.place in (
      done ++ entry ∷ [],
      one_bound done (done ++ entry ∷ []) x.0 bare step (with_policies (drop at.bare_step-index ss) had) (with_policies (drop (at.bare_step-index + 1) ss) left) c.args.scenario.now.steps
          (cc) refl (with_policies_next ss at.bare_step-index x had left more here bound.0) inv.1,
      each_next ss at.bare_step-index x had left more here inv.2 bound.0,
      subst Users (sym (map-push asked done entry)) (Users-push (map asked done) (asked entry) inv.3 c.slot.ensures.user),
      ap (λ k. map boxed_script (set at.scripts.items k new)) c.slot.ensures.place
          ∙ step_added at.scripts.items new old (map asked done) x.0 bare c.slot.ensures.user inv.4
          (ap (λ (s : BoxedScript g.row.F.Denot (Unit {0})). s.uid) was)
          (longer ∙ ap (λ (s : BoxedScript g.row.F.Denot (Unit {0})). map own_step s.steps.items ++ bare ∷ []) was)
          ∙ ap (λ xs. map (script_of xs) users) (sym (map-push asked done entry)),
    )

pub returns-clause-users : goal.returns-clause-users
returns-clause-users g c =
    let inv = c.loop-bare_step.invariant in
    subst Users (all_bound inv.0 c.bare_steps-bare_steps.result.now c.loop-bare_step.bare_step-index (into_iter_items c.loop-bare_step.rest) c.args.scenario.now.steps (omega (arith, c.loop-bare_step-test.false)) inv.1) inv.3

pub returns-clause-few : goal.returns-clause-few
returns-clause-few g c =
    omega (arith, c.bare_steps-bare_steps.ensures.bound, ap length c.bare_steps-bare_steps.ensures.steps, length_with_policies c.bare_steps-bare_steps.result.now (policies_in c.args.scenario.now.steps))

pub returns-clause-scripts : goal.returns-clause-scripts
returns-clause-scripts g c =
    let inv = c.loop-bare_step.invariant in
    let all = all_bound inv.0 c.bare_steps-bare_steps.result.now c.loop-bare_step.bare_step-index (into_iter_items c.loop-bare_step.rest) c.args.scenario.now.steps (omega (arith, c.loop-bare_step-test.false)) inv.1 in
    let kept = filter_same _ (λ (s : BoxedScript g.row.F.Denot (Unit {0})). has_steps (boxed_script s)) _ (λ x b f' k. search rules) _ _ c.retain.ensures.filtered in
    ap (map boxed_script) kept ∙ kept_scripts c.loop-bare_step.scripts.items ∙ ap (filter has_steps) (inv.4 ∙ ap (λ xs. map (script_of xs) users) all)
