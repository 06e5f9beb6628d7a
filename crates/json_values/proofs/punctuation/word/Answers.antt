use Rattle.json_values.proofs.CommonNames.{◌≡◌, ◌∷◌, true, sym, ap, ◌∙◌, subst, is_good, after_value, punctuate, token, token_of}
use Rattle.json_values.proofs.Places.{a_word, at_word, behind, good, IsWord, word_is}
use Rattle.json_values.proofs.punctuation.word.Goals as goal

pub returns : goal.returns
returns c =
    let t = c.args.lexer.now in
    let w = token_of c.word-token.result in
    let value = c.word-token.ensures.value in
    let good : is_good w ≡ true = good c.word-token.result c.in_default.not-Bad in
    record {
      value =
          a_word t c.args.place w c.requires.1 (at_word t c.requires.0 ∙ ap (λ x. token x ∷ behind t) (sym value)) (subst IsWord (sym value) (word_is t)) good
          ∙ ap (λ ts. w ∷ ts) (ap (punctuate after_value) (sym (c.word-token.ensures.after good)) ∙ sym c.after_value.ensures.same);
      passed = c.after_value.ensures.passed;
    }
