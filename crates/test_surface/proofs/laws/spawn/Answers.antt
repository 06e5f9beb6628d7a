use Rattle.std.proofs.Common.{◌∙◌, sym}
use Rattle.step_types.proofs.Replies.{other}
use Rattle.test_surface.proofs.laws.spawn.Goals as goal

pub returns : goal.returns
returns c = (c.step-reply.ensures.machine (other c.step-reply.result (sym c.is_memory.ensures ∙ c.if-is_memory.false))).0
