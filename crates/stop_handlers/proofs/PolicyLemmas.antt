-- Rules at the front of an array of idle ones.
use Rattle.std.proofs.Common.{◌≡◌, ◌+◌, ◌-◌, ◌≤◌, List, ◌++◌, length, drop, replicate, sym, ap, ◌∙◌, arith}
use Rattle.std.proofs.Math.Seq.{take-append_seam}
use Rattle.std.proofs.lemmas.List.{drop-replicate, length-append, length-replicate}
use Rattle.stop_handlers.specs.declared.Rule.{Rule}
use Rattle.stop_handlers.specs.Policies.{idle, filled, IsFilled}

length-filled : (rules : List Rule) → length rules ≤ 16 → length (rules ++ replicate (16 - length rules) idle) ≡ 16
length-filled rules h =
    length-append rules (replicate (16 - length rules) idle) ∙ ap (λ n. length rules + n) (length-replicate (16 - length rules) idle) ∙ omega arith

filled-is : (rules : List Rule) → length rules ≤ 16 → IsFilled (filled rules)
filled-is rules h = (h, length-filled rules h, ap (λ front. front ++ replicate (16 - length rules) idle) (sym (take-append_seam rules (replicate (16 - length rules) idle))))

pub written-is : (rules written : List Rule) (rule : Rule) → rule ≡ idle → written ≡ rules → length rules ≤ 16
    → IsFilled (record { rules = written ++ drop (length rules) (replicate 16 rule); count = length rules })
written-is rules written rule e f h = rw e (rw f (rw (drop-replicate (length rules) 16 idle) (filled-is rules h)))
