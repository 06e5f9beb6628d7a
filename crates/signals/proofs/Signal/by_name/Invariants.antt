use Rattle.signals.proofs.CommonNames.{◌≡◌, ◌≤◌, ◌-◌, nat_eq, find, range_with_len, pointwise, signal_name, by_name}
use Rattle.signals.proofs.Signal.by_name.Given as goal

-- the signals that are left give the answer of all
abbrev pub invariant-loop-number : goal.invariant-loop-number
invariant-loop-number l = record {
  least : 1 ≤ l.number;
  rest : by_name l.name ≡ find (λ n. pointwise nat_eq (signal_name n) l.name) (range_with_len l.number (32 - l.number));
}
