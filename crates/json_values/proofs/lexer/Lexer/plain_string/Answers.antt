use Rattle.json_values.proofs.CommonNames.{◌≡◌, ◌+◌, ◌<◌, get_or, sym, ap, ◌∙◌, arith, nat_tests, get_or_default, IsCharBoundary-after_ascii, head, drop, lex, between, content, plain}
use Rattle.json_values.proofs.Texts.{head_at, within_at, past_string, string_content}
use Rattle.json_values.proofs.Places.{no_colon}
use Rattle.json_values.proofs.lexer.Lexer.plain_string.Goals as goal

pub range-requires-clause-start_boundary : goal.range-requires-clause-start_boundary
range-requires-clause-start_boundary c some =
    let a = c.self.inside in
    let d = a.text.now in
    let first : get_or d a.at 32 ≡ 34 = grind (arith, nat_tests, head_at d a.at, ap head c.self.view_is, c.peek.ensures.value, c.if-peek-ne34.false) in
    let within : a.at < _ = within_at d a.at (λ e. omega (arith, first, e)) in
    IsCharBoundary-after_ascii d a.at c.self.invariant.utf8 within (omega (arith, first, get_or_default d a.at 0 32 within))

pub returns : goal.returns
returns c =
    let a = c.self.inside in
    let d = a.text.now in
    let same = c.as_bytes-bytes.ensures.value in
    let first : get_or d a.at 32 ≡ 34 = grind (arith, nat_tests, head_at d a.at, ap head c.self.view_is, c.peek.ensures.value, c.if-peek-ne34.false) in
    let stop_is = rw same at c.plain_end-stop.ensures.value in
    let last : get_or d c.plain_end-stop.result 32 ≡ 34 = rw (← same) (grind (arith, nat_tests, c.byte_at.ensures.value, c.if-byte_at-ne34.false)) in
    let after : lex between (drop c.spaces_end-end.result d) ≡ lex between (drop (c.plain_end-stop.result + 1) d) = rw (← same) c.spaces_end-end.ensures.same in
    let ends = rw same at c.spaces_end-end.ensures.ends in
    let other = rw same at c.byte_at-2.ensures.head in (
      sym (ap head c.self.view_is) ∙ head_at d a.at ∙ first,
      ap (λ t. content plain (drop 1 t)) (sym c.self.view_is) ∙ string_content d a.at c.plain_end-stop.result first stop_is last ∙ grind (arith, nat_tests, c.range.ensures.value),
      after ∙ past_string d a.at c.plain_end-stop.result first stop_is last ∙ ap (λ t. drop 1 (lex between t)) c.self.view_is,
      no_colon (drop c.spaces_end-end.result d) ends (λ e. c.if-byte_at-eq58.false (other ∙ e)),
    )
