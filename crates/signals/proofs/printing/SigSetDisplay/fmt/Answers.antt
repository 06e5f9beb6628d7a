use Rattle.signals.proofs.CommonNames.{◌≡◌, ◌∷◌, [], ◌++◌, List, ℕ, ap, sym, ◌∙◌, rules, append_assoc, refl, arith, has_written_append, has_written_of_eq, decimal, without, bit, set_text}
use Rattle.std.proofs.Common.{append-nil}
use Rattle.signals.specs.Sets.{members}
use Rattle.signals.proofs.Text.{after, after-last, text-first, text-none}
use Rattle.signals.proofs.printing.SigSetDisplay.fmt.Goals as goal

pub returns-in_default-clause-writes : goal.returns-in_default-clause-writes
returns-in_default-clause-writes g c = search (rules, has_written_of_eq, text-none)

pub loop-signal-preserved : goal.loop-signal-preserved
loop-signal-preserved g c =
    let ys : List ℕ = c.loop-signal.yielded in
    let n : ℕ = c.in-Some-signal.signal in
    record {
      whole = grind (arith, append_assoc {A = ℕ});
      wrote = λ plain.
          let text : after ys ++ (44 ∷ decimal c.number-in-loop-signal.result) ≡ after (ys ++ n ∷ []) = ap (λ m. after ys ++ (44 ∷ decimal m)) c.number-in-loop-signal.ensures.number ∙ after-last ys n in
          has_written_of_eq _ _ _ _ _ text (has_written_append _ _ _ _ _ _ (c.loop-signal.invariant.wrote plain) (search rules));
    }

pub returns-clause-writes : goal.returns-clause-writes
returns-clause-writes g c = λ plain ok.
    let ys : List ℕ = c.loop-signal.yielded in
    let set : ℕ = c.args.self.now in
    let n : ℕ = c.in-Some.first in
    let first = c.in_ok-write.ensures.writes plain refl in
    let gone : ys ≡ members (without set (bit n)) = grind (arith, append-nil {A = ℕ}) in
    let text : decimal c.number.result ++ after ys ≡ set_text set =
    ap (λ m. decimal m ++ after ys) c.number.ensures.number ∙ (ap (λ ns. decimal n ++ after ns) gone ∙ text-first set n (sym c.lowest.ensures ∙ c.in-Some.is)) in
    has_written_of_eq _ _ _ _ _ text (has_written_append _ _ _ _ _ _ first (c.loop-signal.invariant.wrote first.plain))
