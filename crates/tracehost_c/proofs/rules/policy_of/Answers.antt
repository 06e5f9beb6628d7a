use Rattle.std.proofs.{Common.{◌≡◌, ℕ, zero, suc, ◌+◌, ◌<◌, length, List, [], ◌∷◌, ◌++◌, get_or, set, take, arith, ap, sym, ◌∙◌}, lemmas.List.{take_more, take_more_set}}
use Rattle.{std.{proofs.lemmas.List.length-set, specs.Prelude.{option_map, Option, Some, None}}, stop_handlers.specs.declared.Rule.Rule, tracehost_c.specs.declared.rules.FlatRule.FlatRule}
use Rattle.tracehost_c.specs.Rules.{rule_numbered, rules_numbered, both}
use Rattle.std.specs.Option.{option_zip}
use Rattle.tracehost_c.proofs.rules.policy_of.Goals as goal

-- a list with one more at its end, if there are both
abbrev with_last : Option (List Rule) → Option Rule → Option (List Rule)
with_last rules last = option_map (λ p. p.0 ++ (p.1 ∷ [])) (option_zip rules last)

both_with_last : (a : Option Rule) (ks : Option (List Rule)) (o : Option Rule) → both a (with_last ks o) ≡ with_last (both a ks) o
both_with_last a ks o = grind arith

rules-last : (rs : List FlatRule) (r : FlatRule) → rules_numbered (rs ++ (r ∷ [])) ≡ with_last (rules_numbered rs) (rule_numbered r)
rules-last [] r = grind arith
rules-last (a ∷ rs) r = ap (both (rule_numbered a)) (rules-last rs r) ∙ both_with_last (rule_numbered a) (rules_numbered rs) (rule_numbered r)

more : (rs : List FlatRule) (ks : List Rule) (i : ℕ) (d : FlatRule) (o : Option Rule) (v : Rule) → i < length rs → i < length ks → rules_numbered (take i rs) ≡ Some (take i ks)
    → o ≡ rule_numbered (get_or rs i d) → o ≡ Some v → rules_numbered (take (i + 1) rs) ≡ Some (take (i + 1) (set ks i v))
more rs ks i d o v within room is reads found = simp (take_more rs i d within, take_more_set ks i v room, rules-last, is, sym reads ∙ found)

-- a list with a rule that doesn't exist
bad : (rs : List FlatRule) (i : ℕ) (d : FlatRule) → i < length rs → rule_numbered (get_or rs i d) ≡ None → rules_numbered rs ≡ None
bad [] i d within none = absurd (omega arith)
bad (r ∷ rs) zero d within none = grind arith
bad (r ∷ rs) (suc i) d within none = grind (arith, bad rs i d)

pub returns-in_err-kept : goal.returns-in_err-kept
returns-in_err-kept c = grind (arith, bad c.args.rules.now c.loop-place.place, c.rule.ensures, c.in_err-kept.was, c.from_residual.ensures)

pub loop-place-preserved : goal.loop-place-preserved
loop-place-preserved c = (
  length-set c.loop-place.kept c.loop-place.place c.in_ok-kept.field-0 ∙ c.loop-place.invariant.0,
  more c.args.rules.now c.loop-place.kept c.loop-place.place _ c.rule.result c.in_ok-kept.field-0 c.loop-place-test.true (omega arith) c.loop-place.invariant.1 c.rule.ensures c.in_ok-kept.was,
)
