use Rattle.json_values.proofs.CommonNames.{sym, ap, ◌∙◌, read_key}
use Rattle.json_values.proofs.Places.{a_key}
use Rattle.json_values.proofs.tokens.Tokens.take_key.Goals as goal

pub returns : goal.returns
returns c =
    let found = c.if-not-key.ensures in
    ap read_key (sym c.self.view_is ∙ a_key _ c.self.inside.place _ _ (sym c.may_begin.ensures ∙ c.if-not-may_begin.false) found.0 found.1 found.2)
