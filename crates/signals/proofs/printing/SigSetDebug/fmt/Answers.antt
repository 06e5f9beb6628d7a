use Rattle.signals.proofs.CommonNames.{◌≡◌, ◌∷◌, [], ◌++◌, List, ℕ, ap, sym, ◌∙◌, rules, append_assoc, refl, codes, arith, has_written_append, has_written_of_eq, signal_name, named, without, bit}
use Rattle.std.proofs.Common.{append-nil}
use Rattle.signals.specs.Sets.{members}
use Rattle.signals.proofs.Text.{bars, bars-last, named-first, named-none}
use Rattle.signals.proofs.printing.SigSetDebug.fmt.Goals as goal

pub returns-in_default : goal.returns-in_default
returns-in_default g c = record { writes = search (rules, has_written_of_eq, named-none) }

pub loop-other-preserved : goal.loop-other-preserved
loop-other-preserved g c =
    let ys : List ℕ = c.loop-other.yielded in
    let n : ℕ = c.in-Some-other.other in
    record {
      whole = grind (arith, append_assoc {A = ℕ});
      wrote = λ plain.
          let name : List ℕ = c.name-name-in-loop-other.result.now in
          let text : bars ys ++ (codes " | " ++ name) ≡ bars (ys ++ n ∷ []) = ap (λ m. bars ys ++ (codes " | " ++ m)) c.name-name-in-loop-other.ensures ∙ bars-last ys n in
          has_written_of_eq _ _ _ _ _ text (has_written_append _ _ _ _ _ _ (c.loop-other.invariant.wrote plain) (search rules));
    }

pub returns : goal.returns
returns g c = record {
  writes = λ plain ok.
      let ys : List ℕ = c.loop-other.yielded in
      let set : ℕ = c.args.self.now in
      let n : ℕ = c.in-Some.first in
      let name : List ℕ = c.name-name.result.now in
      let first = c.in_ok-write.ensures.writes plain refl in
      let middle = c.loop-other.invariant.wrote first.plain in
      let gone : ys ≡ members (without set (bit n)) = grind (arith, append-nil {A = ℕ}) in
      let names : name ++ bars ys ≡ named (members set) =
      ap (λ m. m ++ bars ys) c.name-name.ensures ∙ (ap (λ ns. signal_name n ++ bars ns) gone ∙ named-first set n (sym c.lowest.ensures ∙ c.in-Some.is)) in
      let text : (codes "SigSet(" ++ name) ++ (bars ys ++ codes ")") ≡ codes "SigSet(" ++ (named (members set) ++ codes ")") =
      ap (λ t. codes "SigSet(" ++ t) (sym (append_assoc name (bars ys) (codes ")")) ∙ ap (λ t. t ++ codes ")") names) in
      has_written_of_eq _ _ _ _ _ text (has_written_append _ _ _ _ _ _ first (has_written_append _ _ _ _ _ _ middle (search rules)));
}
