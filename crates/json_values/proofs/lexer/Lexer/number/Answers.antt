use Rattle.json_values.proofs.CommonNames.{◌≡◌, ◌<◌, drop, get_or, Some, sym, ap, ◌∙◌, subst, arith, class, other, is_blank, after_number, head, get_or_default, IsCharBoundary-before_ascii}
use Rattle.json_values.proofs.Texts.{first_of_number, head_at, solid_at}
use Rattle.json_values.proofs.lexer.Lexer.number.Goals as goal

pub range-requires-clause-start_boundary : goal.range-requires-clause-start_boundary
range-requires-clause-start_boundary c some =
    let a = c.self.inside in
    let d = a.text.now in
    let found : Some (drop c.in-Some.end d) ≡ after_number (drop a.at d) = rw (← c.as_bytes.ensures.value) c.in-Some.ensures.0 in
    let small : get_or d a.at 32 < 128 = subst (λ x. x < 128) (head_at d a.at) (first_of_number _ _ (sym found)) in
    let kind : class (get_or d a.at 32) ≡ other = ap class (sym (head_at d a.at) ∙ ap head c.self.view_is) ∙ c.requires in
    let within = solid_at d a.at (ap is_blank kind) in
    IsCharBoundary-before_ascii d a.at within (omega (arith, small, get_or_default d a.at 0 32 within))
