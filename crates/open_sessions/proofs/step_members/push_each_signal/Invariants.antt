use Rattle.std.proofs.Common.{◌≡◌, ◌++◌, map}
use Rattle.json.specs.{Tree.items_tokens, Value.items_of}
use Rattle.{reply_json.specs.Objects.natural, signals.specs.Sets.members}
use Rattle.open_sessions.proofs.step_members.push_each_signal.Given as goal

-- the tokens so far, and those of the signals that are left
abbrev pub invariant-loop-signal : goal.invariant-loop-signal
invariant-loop-signal l = record {
  before : l.out.before ≡ l.fn.out.before;
  whole : l.out.tokens ++ items_tokens (items_of (map (λ n. natural n) l.signal-iterator)) ≡ l.fn.out.tokens ++ items_tokens (items_of (map (λ n. natural n) (members l.fn.set)));
}
