use Rattle.json_trace.proofs.CommonNames.{◌≡◌, ◌++◌, map, drop, items_tokens, items_of}
use Rattle.json_trace.proofs.rows.push_each.Given as goal

-- the tokens so far, and those of the rows that are left
abbrev pub invariant-loop-row : goal.invariant-loop-row
invariant-loop-row g l = record {
  before : l.out.before ≡ l.fn.out.before;
  whole : l.out.tokens ++ items_tokens (items_of (map (λ r. g.R.Row.value r) (drop l.row-index l.rows))) ≡ l.fn.out.tokens ++ items_tokens (items_of (map (λ r. g.R.Row.value r) l.rows));
}
