use Rattle.json_values.proofs.CommonNames.{◌∷◌, sym, ap, ◌∙◌, is_blank, after_value, begins_colon, class, punctuate}
use Rattle.json.specs.Token.{string}
use Rattle.json_values.proofs.Places.{a_string, no_colon}
use Rattle.json_values.proofs.punctuation.string.Goals as goal

pub returns-else-peek-eq58-clause-value : goal.returns-else-peek-eq58-clause-value
returns-else-peek-eq58-clause-value c =
    let after = c.string.new.self in
    let seen = c.peek.ensures.value in
    let none = no_colon after (λ b. c.peek.ensures.end (ap (λ x. is_blank (class x)) seen ∙ b)) (λ e. c.if-peek-eq58.false (seen ∙ e)) in
    a_string c.args.lexer.now c.args.place _ c.requires.1 c.requires.0 c.in-Some.ensures.value (ap begins_colon (sym c.in-Some.ensures.after) ∙ none)
    ∙ ap (λ ts. string c.in-Some.text.now ∷ ts) (ap (punctuate after_value) (sym c.in-Some.ensures.after) ∙ sym c.after_value.ensures.same)
