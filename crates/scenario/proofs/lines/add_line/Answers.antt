use Rattle.std.proofs.Common.{rules, sym, ◌∙◌}
use Rattle.scenario.proofs.lines.add_line.Goals as goal

pub returns-else-is_err : goal.returns-else-is_err
returns-else-is_err c = (sym c.is_memory.ensures ∙ c.if-is_memory.false, c.in-Some.lines, search rules, search rules)
