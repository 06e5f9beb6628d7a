use Rattle.json_values.proofs.CommonNames.{◌≡◌, ◌+◌, ◌&&◌, nat_eq, true, length, drop, sym, ap, ◌∙◌, ends_word, starts_with, between, lex}
use Rattle.json_values.proofs.Texts.{past_literal}
use Rattle.json_values.proofs.lexer.Lexer.literal.Goals as goal

pub returns-clause-after : goal.returns-clause-after
returns-clause-after c good =
    let a = c.self.inside in
    let d = a.text.now in
    let name = c.args.name.now in
    let is : (starts_with nat_eq (drop a.at d) name && ends_word (drop (length name) (drop a.at d))) ≡ true = rw (← c.as_bytes.ensures.value) (sym c.is_literal.ensures ∙ c.if-not-is_literal.false) in
    let same : lex between (drop c.spaces_end-self-inside.result d) ≡ lex between (drop (a.at + length c.args.name.now) d) = rw (← c.as_bytes-2.ensures.value) c.spaces_end-self-inside.ensures.same in
    same ∙ past_literal d c.args.name.now a.at _ c.requires is ∙ ap (λ t. drop 1 (lex between t)) c.self.view_is
