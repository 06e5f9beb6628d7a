use Rattle.std.proofs.Common.{◌≡◌, ◌++◌, map, drop}
use Rattle.json.specs.{Tree.items_tokens, Value.items_of}
use Rattle.{reply_json.specs.Objects.object_of, open_sessions.specs.StepLines.rule_keys}
use Rattle.open_sessions.proofs.step_members.push_each_rule.Given as goal

-- the tokens so far, and those of the rules that are left
abbrev pub invariant-loop-rule : goal.invariant-loop-rule
invariant-loop-rule l = record {
  before : l.out.before ≡ l.fn.out.before;
  whole : l.out.tokens ++ items_tokens (items_of (map (λ r. object_of (rule_keys r)) (drop l.rule-index l.rules))) ≡ l.fn.out.tokens ++ items_tokens (items_of (map (λ r. object_of (rule_keys r)) l.rules));
}
