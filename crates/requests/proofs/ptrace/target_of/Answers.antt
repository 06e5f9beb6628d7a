use Rattle.requests.proofs.CommonNames.{sym, ◌∙◌}
use Rattle.requests.proofs.SoundAfterRequest.{own_row}
use Rattle.requests.proofs.Targets.{target-inside, target-outside}
use Rattle.requests.proofs.ptrace.target_of.Goals as goal

pub returns-in-Some-clause-row : goal.returns-in-Some-clause-row
returns-in-Some-clause-row c = own_row c.in-Some.pid c.args.tables.now.rows.processes c.process.result c.process.ensures.row

pub returns-then-in_pid_block-clause-process : goal.returns-then-in_pid_block-clause-process
returns-then-in_pid_block-clause-process c = c.process_by_number.ensures.row ∙ sym (target-inside c.args.user c.args.target c.args.tables.now.rows c.assert_invariant.ensures c.if-target-ge-FIRST_TID.false c.in_pid_block.ensures.user (sym c.in_pid_block.ensures.inside ∙ c.if-in_pid_block.true))

pub returns-then-in_pid_block-clause-row : goal.returns-then-in_pid_block-clause-row
returns-then-in_pid_block-clause-row c = own_row c.args.target c.args.tables.now.rows.processes c.process_by_number.result c.process_by_number.ensures.row

pub returns-clause-process : goal.returns-clause-process
returns-clause-process c = sym (target-outside c.args.user c.args.target c.args.tables.now.rows c.assert_invariant.ensures c.if-target-ge-FIRST_TID.false (sym c.in_pid_block.ensures.inside ∙ c.if-in_pid_block.false))
