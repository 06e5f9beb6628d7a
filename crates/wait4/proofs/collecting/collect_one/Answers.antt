use Rattle.wait4.proofs.CommonNames.{rules, ◌∙◌}
use Rattle.wait4.proofs.CollectRows.{collected-state}
use Rattle.wait4.proofs.collecting.collect_one.Goals as goal

pub returns-in-Trace : goal.returns-in-Trace
returns-in-Trace c = c.set_state.ensures.rows ∙ collected-state c.args.caller c.args.p.now c.args.tables.now.rows c.assert_invariant.ensures.rising c.requires.there _ (search rules) (search rules)

pub returns-in-Job : goal.returns-in-Job
returns-in-Job c = c.set_state-in-Job.ensures.rows ∙ collected-state c.args.caller c.args.p.now c.args.tables.now.rows c.assert_invariant.ensures.rising c.requires.there _ (search rules) (search rules)
