use Rattle.reply_json.proofs.CommonNames.{◌≡◌, ◌++◌, map, string, signal_name, members, items_tokens, items_of}
use Rattle.reply_json.proofs.arrays.push_each_signal.Given as goal

-- the tokens so far, and those of the signals that are left
abbrev pub invariant-loop-signal : goal.invariant-loop-signal
invariant-loop-signal l = record {
  before : l.out.before ≡ l.fn.out.before;
  whole : l.out.tokens ++ items_tokens (items_of (map (λ text. string text) (map (λ s. signal_name s) l.signal-iterator))) ≡ l.fn.out.tokens ++ items_tokens (items_of (map (λ text. string text) (map (λ s. signal_name s) (members l.fn.set))));
}
