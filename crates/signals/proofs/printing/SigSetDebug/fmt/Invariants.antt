use Rattle.signals.proofs.CommonNames.{◌≡◌, ◌++◌, codes, HasWritten, IsPlainFormatter, flat_map, signal_name}
use Rattle.signals.proofs.printing.SigSetDebug.fmt.Given as goal

-- the signals gone over are written
abbrev pub invariant-loop-other : goal.invariant-loop-other
invariant-loop-other g l = record {
  whole : l.initial.other-iterator ≡ l.yielded ++ l.other-iterator;
  wrote : IsPlainFormatter l.initial.f → HasWritten g.W.Write.write_str_gives l.initial.f (flat_map (λ n. codes " | " ++ signal_name n) l.yielded) l.f;
}
