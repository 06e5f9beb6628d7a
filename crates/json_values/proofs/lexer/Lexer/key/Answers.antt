use Rattle.json_values.proofs.CommonNames.{◌≡◌, ◌∷◌, ◌++◌, [], ◌+◌, ◌-◌, arith, length, take, drop, sym, ap, ◌∙◌, head, colon, content, plain, between, lex}
use Rattle.json_values.proofs.Texts.{head_at, key_content, key_passed}
use Rattle.json_values.proofs.WrittenKeys.{opens, closes, coloned, named}
use Rattle.json_values.proofs.lexer.Lexer.key.Goals as goal

pub returns : goal.returns
returns c =
    let a = c.self.inside in
    let d = a.text.now in
    let name = c.args.name.now in
    let same = c.as_bytes-bytes.ensures.value in
    let reach : length name + 3 ≡ a.at + (length name + 3) - a.at = omega arith in
    let there : take (length name + 3) (drop a.at d) ≡ 34 ∷ name ++ (34 ∷ 58 ∷ []) =
    ap (λ k. take k (drop a.at d)) reach ∙ rw (← same) (c.is_at.ensures.same c.if-not-is_at.false) ∙ c.requires.written.1 in
    let first = opens d name a.at there in
    let last = closes d name a.at there in
    let end : a.at + 1 + length name + 2 ≡ a.at + (length name + 3) = omega arith in
    let found = named d name a.at there in (
      sym (ap head c.self.view_is) ∙ head_at d a.at ∙ first,
      ap (λ t. content plain (drop 1 t)) (sym c.self.view_is) ∙ key_content d name a.at first found c.requires.plain last,
      ap (λ t. drop 1 (lex between t)) (sym c.self.view_is) ∙ key_passed d name a.at first found c.requires.plain last (coloned d name a.at there)
          ∙ ap (λ ts. colon ∷ ts) (ap (λ j. lex between (drop j d)) end ∙ rw (← same) (sym c.spaces_end-self-inside.ensures.same)),
    )
