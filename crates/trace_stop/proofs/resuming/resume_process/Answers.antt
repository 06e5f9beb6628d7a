use Rattle.trace_rows.specs.Stop.{ends_process}
use Rattle.trace_stop.proofs.CommonNames.{sym, ap, ◌∙◌, rules}
use Rattle.trace_rows.specs.End.{end}
use Rattle.trace_stop.proofs.Resumed.{runs_sound, runs_live}
use Rattle.trace_stop.proofs.resuming.resume_process.Goals as goal

pub end-requires-clause-sound : goal.end-requires-clause-sound
end-requires-clause-sound c = search (rules, runs_sound)

pub end-requires-clause-live : goal.end-requires-clause-live
end-requires-clause-live c = search (rules, runs_live)

pub returns-then-ends-clause-rows : goal.returns-then-ends-clause-rows
returns-then-ends-clause-rows c = rw (ap (ends_process c.args.how.now.pass) c.requires.at ∙ (sym c.ends.ensures ∙ c.if-ends.true))
    (c.end.ensures.rows ∙ (ap (λ n. end c.args.settings c.args.process.now.pid n c.resume_row.new.tables.rows) c.number.ensures.number ∙ ap (end c.args.settings c.args.process.now.pid c.args.how.now.pass) c.resume_row.ensures))

pub returns-else-ends : goal.returns-else-ends
returns-else-ends c = record { rows = rw (ap (ends_process c.args.how.now.pass) c.requires.at ∙ (sym c.ends.ensures ∙ c.if-ends.false)) c.resume_row.ensures; sound = search (rules, runs_sound) }
