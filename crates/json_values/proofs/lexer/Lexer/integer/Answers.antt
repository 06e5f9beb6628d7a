use Rattle.json_values.proofs.CommonNames.{◌≡◌, ◌+◌, ◌<◌, ◌∷◌, drop, get_or, Some, sym, ap, ◌∙◌, w64, arith, to_z_pos, ints, between, lex, token, number, head, IsWholeAt, piece}
use Rattle.json_values.proofs.Texts.{head_at, negative_number, negative_value, past_number, whole_number, whole_value}
use Rattle.json_values.proofs.lexer.Lexer.integer.Goals as goal

pub returns-then-peek-ne45 : goal.returns-then-peek-ne45
returns-then-peek-ne45 c =
    let a = c.self.inside in
    let d = a.text.now in
    let v = c.in_ok-value.value in
    let end = c.in_ok-value.end in
    let n : IsWholeAt d a.at end v = rw (← c.as_bytes-bytes.ensures.value) c.in_ok-value.ensures in
    let same : lex between (drop c.spaces_end-self-inside.result d) ≡ lex between (drop end d) = rw (← c.as_bytes-bytes.ensures.value) c.spaces_end-self-inside.ensures.same in (
      piece d a.at end,
      ap (lex between) (sym c.self.view_is) ∙ past_number d a.at end (whole_number d a.at end v n) ∙ ap (λ l. token (number (piece d a.at end)) ∷ l) (sym same),
      whole_value d a.at end v n ∙ ap Some (sym (to_z_pos w64 v (omega (arith, n.written.small)))),
    )

pub returns : goal.returns
returns c =
    let a = c.self.inside in
    let d = a.text.now in
    let v = c.in_ok-value-2.value in
    let end = c.in_ok-value-2.end in
    let minus : get_or d a.at 32 ≡ 45 = sym (head_at d a.at) ∙ ap head c.self.view_is ∙ omega (arith, c.peek.ensures.value, c.if-peek-ne45.false) in
    let some : 0 < v = omega (arith, c.if-value-eq0.false) in
    let n : IsWholeAt d (a.at + 1) end v = rw (← c.as_bytes-bytes.ensures.value) c.in_ok-value-2.ensures in
    let same : lex between (drop c.spaces_end-self-inside-2.result d) ≡ lex between (drop end d) = rw (← c.as_bytes-bytes.ensures.value) c.spaces_end-self-inside-2.ensures.same in
    let small = n.written.small in (
      piece d a.at end,
      ap (lex between) (sym c.self.view_is) ∙ past_number d a.at end (negative_number d a.at end v minus n some) ∙ ap (λ l. token (number (piece d a.at end)) ∷ l) (sym same),
      negative_value d a.at end v minus n some ∙ ap Some (omega (arith, ints, some, small)),
    )
