use Rattle.scenario_runs.proofs.CommonNames.{◌++◌, ◌∷◌, ◌∙◌, append_assoc, ap, string_bytes, sym}
use Rattle.std.specs.Prelude.{codes}
use Rattle.step_types.proofs.Joins.{spaced, spaced_words}
use Rattle.scenario_runs.proofs.number_lists.push_list.Goals as goal

pub loop-rest-init : goal.loop-rest-init
loop-rest-init c =
    let word = c.args.word.now in
    let listed = spaced c.args.numbers.now in
    ap (λ xs. xs ++ listed) (c.in_ok-push_str-2.ensures.bytes ∙ ap (λ xs. xs ++ word) c.in_ok-push_str.ensures.bytes)
    ∙ append_assoc _ word listed ∙ append_assoc _ (codes " ") (word ++ listed) ∙ ap (λ xs. string_bytes c.args.text.now ++ (32 ∷ xs)) (sym (spaced_words word c.args.numbers.now))
