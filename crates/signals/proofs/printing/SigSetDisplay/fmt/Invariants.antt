use Rattle.signals.proofs.CommonNames.{◌≡◌, ◌++◌, HasWritten, IsPlainFormatter}
use Rattle.signals.proofs.Text.{after}
use Rattle.signals.proofs.printing.SigSetDisplay.fmt.Given as goal

-- the signals gone over are written
abbrev pub invariant-loop-signal : goal.invariant-loop-signal
invariant-loop-signal g l = record {
  whole : l.initial.signal-iterator ≡ l.yielded ++ l.signal-iterator;
  wrote : IsPlainFormatter l.initial.f → HasWritten g.W.Write.write_str_gives l.initial.f (after l.yielded) l.f;
}
