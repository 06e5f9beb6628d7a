use Rattle.std.specs.Prelude.{◌≡◌, ◌≤◌, length, take}
use Rattle.user_hosts.proofs.own_hosts.copy_hosts.Given as goal

abbrev pub invariant-loop-slot : goal.invariant-loop-slot
invariant-loop-slot g l = record {
  reached : l.slot ≤ length l.made.items;
  few : length l.made.items ≤ length l.source;
  same : take l.slot l.made.items ≡ take l.slot l.source;
}
