use Rattle.json_values.proofs.CommonNames.{◌<◌, ◌≤◌, get_or, length, ap, ◌∙◌, ⊎_elim, arith, cases_lt, eq-eqb, get_or_default, get_or_past}
use Rattle.json_values.proofs.tokens.room_for.Goals as goal

pub returns-in-None-clause-room : goal.returns-in-None-clause-room
returns-in-None-clause-room c i e =
    let d = c.args.text.now in
    let same = c.as_bytes.ensures.value in
    let inside : i < length d → ⊥ = λ h. c.in-None.ensures i (omega arith) (omega (arith, h, ap length same)) (eq-eqb _ 92 (ap (λ t. get_or t i 0) same ∙ get_or_default d i 0 32 h ∙ e)) in
    let past : length d ≤ i → ⊥ = λ h. omega (arith, e, get_or_past d i 32 h) in
    absurd (⊎_elim inside past (cases_lt i (length d)))
