use Rattle.json_values.proofs.CommonNames.{◌≡◌, ◌+◌, ◌<◌, get_or, length, drop, Some, sym, ap, ◌∙◌, arith, drop-drop, get_or_default, IsCharBoundary-after_ascii, head, content, plain, between, lex}
use Rattle.json_values.proofs.StringEnds.{string_begins}
use Rattle.json_values.proofs.Texts.{head_at, within_at}
use Rattle.json_values.proofs.lexer.Lexer.escaped_string.Goals as goal

pub unescape-requires-clause-boundary : goal.unescape-requires-clause-boundary
unescape-requires-clause-boundary c =
    let a = c.self.inside in
    let d = a.text.now in
    let first : get_or d a.at 32 ≡ 34 = sym (head_at d a.at) ∙ ap head c.self.view_is ∙ c.requires.quote in
    let within : a.at < length d = within_at d a.at (λ e. omega (arith, first, e)) in
    IsCharBoundary-after_ascii d a.at c.self.invariant.utf8 within (omega (arith, first, get_or_default d a.at 0 32 within))

pub returns-clause-value : goal.returns-clause-value
returns-clause-value c =
    let a = c.self.inside in
    let d = a.text.now in
    ap (λ t. content plain (drop 1 t)) (sym c.self.view_is) ∙ ap (content plain) (drop-drop 1 a.at d) ∙ c.in-Some.ensures.value ∙ ap Some (sym (c.in-Ok.ensures.cases.0 ∙ c.split_at_mut-written.ensures.front))

pub returns-clause-after : goal.returns-clause-after
returns-clause-after c =
    let a = c.self.inside in
    let d = a.text.now in
    let first : get_or d a.at 32 ≡ 34 = sym (head_at d a.at) ∙ ap head c.self.view_is ∙ c.requires.quote in
    let same : lex between (drop c.spaces_end-self-inside.result d) ≡ lex between (drop (c.in-Some.stop + 1) d) = rw (← c.as_bytes.ensures.value) c.spaces_end-self-inside.ensures.same in
    same ∙ sym c.in-Some.ensures.passed ∙ sym (string_begins d a.at first) ∙ ap (λ t. drop 1 (lex between t)) c.self.view_is
