use Rattle.std.proofs.Common.{refl, arith}
use Rattle.scenario_runs.proofs.short_lines.stop_text.Goals as goal

pub returns-in-6 : goal.returns-in-6
returns-in-6 c = rw c.in-6.is (refl, omega arith)

pub returns-in-10 : goal.returns-in-10
returns-in-10 c = rw c.in-10.is (refl, omega arith)

pub returns-in-18 : goal.returns-in-18
returns-in-18 c = rw c.in-18.is (refl, omega arith)

pub returns-in-34 : goal.returns-in-34
returns-in-34 c = rw c.in-34.is (refl, omega arith)

pub returns-in-138 : goal.returns-in-138
returns-in-138 c = rw c.in-138.is (refl, omega arith)
