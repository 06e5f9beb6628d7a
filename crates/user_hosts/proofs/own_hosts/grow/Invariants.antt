use Rattle.std.specs.Prelude.{◌≡◌, ◌≤◌, ◌-◌, length}
use Rattle.user_hosts.specs.Hosts.{padded}
use Rattle.user_hosts.proofs.own_hosts.grow.Given as goal

abbrev pub invariant-loop-made : goal.invariant-loop-made
invariant-loop-made g l = record {
  few : length l.made.items ≤ 64;
  same : padded l.made.items ≡ padded l.fn.made.items;
}

abbrev pub decreases-loop-made : goal.decreases-loop-made
decreases-loop-made g l = 64 - length l.made.items
