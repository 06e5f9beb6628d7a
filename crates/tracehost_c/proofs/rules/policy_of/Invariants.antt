use Rattle.{std.{proofs.Common.{◌≡◌, length, take}, specs.Prelude.Some}, tracehost_c.specs.Rules.rules_numbered}
use Rattle.tracehost_c.proofs.rules.policy_of.Given as goal

abbrev pub invariant-loop-place : goal.invariant-loop-place
invariant-loop-place l = (length l.kept ≡ 16) × (rules_numbered (take l.place l.rules) ≡ Some (take l.place l.kept))
