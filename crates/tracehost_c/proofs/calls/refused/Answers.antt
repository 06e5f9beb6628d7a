use Rattle.{std.proofs.Common.{refl, rules}, tracehost_c.specs.Calls.{no_step, not_open}}
use Rattle.tracehost_c.proofs.calls.refused.Goals as goal

pub returns-then-is_open : goal.returns-then-is_open
returns-then-is_open c = λ user reply. no_step refl (search rules) (λ is. refl) refl refl

pub returns-else-is_open : goal.returns-else-is_open
returns-else-is_open c = λ user reply. not_open refl (search rules) refl refl
