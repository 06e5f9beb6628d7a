use Rattle.std.proofs.Common.{◌≡◌, ◌==◌, ◌∙◌, ℕ, Bool, true, false, List, [], ◌∷◌, ap, arith, filter, map, refl, rules, sym, Some}
use Rattle.std.proofs.lemmas.Fn.{filter_same}
use Rattle.std.proofs.lemmas.Bool.Decides.{nat_tests}
use Rattle.step_types.specs.declared.Reply.{Reply}
use Rattle.scenario_runs.specs.Runs.{answered}
use Rattle.json_trace.specs.Traces.{answers_to}
use Rattle.json_trace.proofs.traces.replies_to.Goals as goal

filtered : (u : ℕ) (es : List (ℕ × Reply)) → map answered (filter (λ e. e.0 == u) es) ≡ answers_to (Some u) (map answered es)
filtered u [] = refl
filtered u (e ∷ es) = grind (arith, nat_tests, filtered u es)

pub returns-in-Some : goal.returns-in-Some
returns-in-Some c =
    let kept = filter_same _ (λ (e : ℕ × Reply). e.0 == c.in-Some.user) _ (λ x b f k. search rules) _ _ c.retain.ensures.filtered in
    ap (map answered) kept ∙ filtered c.in-Some.user c.args.replies.items ∙ ap (λ o. answers_to o (map answered c.args.replies.items)) (sym c.in-Some.is)
