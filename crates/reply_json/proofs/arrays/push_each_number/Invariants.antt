use Rattle.reply_json.proofs.CommonNames.{◌≡◌, ◌++◌, map, drop, items_tokens, items_of, natural}
use Rattle.reply_json.proofs.arrays.push_each_number.Given as goal

-- the tokens so far, and those of the numbers that are left
abbrev pub invariant-loop-number : goal.invariant-loop-number
invariant-loop-number l = record {
  before : l.out.before ≡ l.fn.out.before;
  whole : l.out.tokens ++ items_tokens (items_of (map (λ n. natural n) (drop l.number-index l.numbers))) ≡ l.fn.out.tokens ++ items_tokens (items_of (map (λ n. natural n) l.numbers));
}
