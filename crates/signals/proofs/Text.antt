-- The text of a set of signals, one signal further.
use Rattle.signals.proofs.CommonNames.{◌≡◌, ℕ, List, [], ◌∷◌, ◌++◌, map, sym, ap, ◌∙◌, append_assoc, flat_map-append, Some, None, codes, decimal, join_with_byte, flat_map, signal_name, named, bit}
use Rattle.signals.proofs.CommonNames.{without, lowest, set_text, joined}
use Rattle.std.proofs.lemmas.List.{append-nil}
use Rattle.signals.specs.Sets.{members}
use Rattle.signals.proofs.Rest.{members-first, members-none}

-- what follows the first number
abbrev pub after : List ℕ → List ℕ
after [] = []
after (n ∷ ns) = (44 ∷ decimal n) ++ after ns

pub after-last : (ns : List ℕ) (n : ℕ) → after ns ++ (44 ∷ decimal n) ≡ after (ns ++ n ∷ [])
after-last [] n = sym (append-nil (44 ∷ decimal n))
after-last (m ∷ ns) n = append_assoc (44 ∷ decimal m) (after ns) (44 ∷ decimal n) ∙ ap (λ t. (44 ∷ decimal m) ++ t) (after-last ns n)

joined-after : (n : ℕ) (ns : List ℕ) → join_with_byte 44 (decimal n ∷ map (λ m. decimal m) ns) ≡ decimal n ++ after ns
joined-after n [] = sym (append-nil (decimal n))
joined-after n (m ∷ ns) = ap (λ t. decimal n ++ (44 ∷ t)) (joined-after m ns)

pub text-first : (set n : ℕ) → lowest set ≡ Some n → decimal n ++ after (members (without set (bit n))) ≡ set_text set
text-first set n first = sym (ap (λ ns. joined 44 (map (λ m. decimal m) ns)) (members-first set n first) ∙ joined-after n (members (without set (bit n))))

pub text-none : (set : ℕ) → lowest set ≡ None → codes "none" ≡ set_text set
text-none set none = sym (ap (λ ns. joined 44 (map (λ m. decimal m) ns)) (members-none set none))

-- the names that follow the first, each after its bar
abbrev pub bars : List ℕ → List ℕ
bars ns = flat_map (λ m. codes " | " ++ signal_name m) ns

pub bars-last : (ns : List ℕ) (n : ℕ) → bars ns ++ (codes " | " ++ signal_name n) ≡ bars (ns ++ n ∷ [])
bars-last ns n = ap (λ t. bars ns ++ t) (sym (append-nil (codes " | " ++ signal_name n))) ∙ sym (flat_map-append (λ m. codes " | " ++ signal_name m) ns (n ∷ []))

pub named-first : (set n : ℕ) → lowest set ≡ Some n → signal_name n ++ bars (members (without set (bit n))) ≡ named (members set)
named-first set n first = sym (ap (λ ns. named ns) (members-first set n first))

pub named-none : (set : ℕ) → lowest set ≡ None → codes "SigSet(0x0)" ≡ codes "SigSet(" ++ (named (members set) ++ codes ")")
named-none set none = sym (ap (λ ns. codes "SigSet(" ++ (named ns ++ codes ")")) (members-none set none))
