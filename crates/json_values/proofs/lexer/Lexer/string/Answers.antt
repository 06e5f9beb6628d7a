use Rattle.json_values.proofs.CommonNames.{◌≡◌, ◌+◌, ◌-◌, ◌<◌, get_or, sym, ap, ◌∙◌, arith, get_or-drop, get_or_default, IsCharBoundary-after_ascii, head}
use Rattle.json_values.proofs.Texts.{head_at, within_at}
use Rattle.json_values.proofs.lexer.Lexer.string.Goals as goal

pub range-requires-clause-start_boundary : goal.range-requires-clause-start_boundary
range-requires-clause-start_boundary c some =
    let a = c.self.inside in
    let d = a.text.now in
    let first : get_or d a.at 32 ≡ 34 = sym (head_at d a.at) ∙ ap head c.self.view_is ∙ c.requires in
    let within : a.at < _ = within_at d a.at (λ e. omega (arith, first, e)) in
    IsCharBoundary-after_ascii d a.at c.self.invariant.utf8 within (omega (arith, first, get_or_default d a.at 0 32 within))

pub escaped_string-requires-clause-escape : goal.escaped_string-requires-clause-escape
escaped_string-requires-clause-escape c =
    let a = c.self.inside in
    let d = a.text.now in
    let stop = c.plain_end-stop.result in
    let there : a.at + (stop - a.at) ≡ stop = omega (arith, c.plain_end-stop.ensures.value) in
    let seen : get_or d stop 32 ≡ 92 = omega (arith, c.in-92.is, c.byte_at.ensures.value, ap (λ t. get_or t stop 32) c.as_bytes-2.ensures.value) in
    (stop - a.at, ap (λ t. get_or t (stop - a.at) 32) (sym c.self.view_is) ∙ get_or-drop a.at d (stop - a.at) 32 ∙ ap (λ j. get_or d j 32) there ∙ seen)
