use Rattle.reply_json.proofs.CommonNames.{◌≡◌, ◌++◌, map, drop}
use Rattle.reply_json.proofs.TokenLemmas.{name_tokens}
use Rattle.reply_json.proofs.arrays.push_each_flag.Given as goal

-- the tokens so far, and those of the flags that are left
abbrev pub invariant-loop-flag : goal.invariant-loop-flag
invariant-loop-flag g l =
    let F = g.F.Flags in
    let rows = map (λ f. (f.name.now, F.set_of f.value)) (drop l.flag-index l.flag-items) in
    record {
      before : l.out.before ≡ l.fn.out.before;
      whole : l.out.tokens ++ name_tokens (F.set_of l.set) rows ≡ l.fn.out.tokens ++ name_tokens (F.set_of l.set) F.table;
    }
