use Rattle.json_values.proofs.CommonNames.{nat_tests, ◌≡◌, ℕ, ◌∷◌, None, ap, ◌∙◌, arith, rules, value, token_of, value_is, of_json, converted, SFits}
use Rattle.json_values.proofs.FirstTokens.{integer_number, number_scalar, number_beyond}
use Rattle.json_values.proofs.scalars.open_value.Goals as goal

pub returns-in_err-number_scalar-in-Number-clause-invalid : goal.returns-in_err-number_scalar-in-Number-clause-invalid
returns-in_err-number_scalar-in-Number-clause-invalid c =
    let first : c.args.reader.now ≡ token_of c.in_ok-token.token ∷ c.next.new.self = grind arith in
    let none : (depth : ℕ) → converted of_json (value depth c.args.reader.now) ≡ None =
    λ depth. number_beyond c.in-Number.text.now c.args.reader.now c.next.new.self depth (first ∙ ap (λ t. token_of t ∷ c.next.new.self) c.in-Number.is) c.in_err-number_scalar-in-Number.ensures.invalid in
    search (rules, none)

pub returns-in-EndObject-clause-invalid : goal.returns-in-EndObject-clause-invalid
returns-in-EndObject-clause-invalid c = λ depth.
    let first : c.args.reader.now ≡ token_of c.in_ok-token.token ∷ c.next.new.self = grind arith in
    rw (value_is depth c.args.reader.now, first) (grind arith)

pub returns-in-Some-clause-opened : goal.returns-in-Some-clause-opened
returns-in-Some-clause-opened c = grind (arith, nat_tests, SFits, number_scalar, integer_number)
