use Rattle.std.proofs.Common.{arith, sym, ◌∙◌}
use Rattle.wait4.proofs.SoundAfterCollect.{collect_sound, reported_row, reported_fits}
use Rattle.wait4.proofs.Candidates.{answer-unreported}
use Rattle.wait4.proofs.collecting.collect.Goals as goal

pub status_of-status-requires : goal.status_of-status-requires
status_of-status-requires c =
    record { ended = (reported_fits c.args.caller c.args.which c.ranges.which c.args.options c.args.tables.now.rows c.requires.sound c.in-Some.p (sym c.reported.ensures.row ∙ c.in-Some.is)).ended }

pub collect_one-requires-clause-there : goal.collect_one-requires-clause-there
collect_one-requires-clause-there c = reported_row c.args.caller c.args.which c.ranges.which c.args.options c.args.tables.now.rows c.requires.sound c.in-Some.p (sym c.reported.ensures.row ∙ c.in-Some.is)

pub returns-in-Some-clause-sound : goal.returns-in-Some-clause-sound
returns-in-Some-clause-sound c =
    let at = reported_row c.args.caller c.args.which c.ranges.which c.args.options c.args.tables.now.rows c.requires.sound c.in-Some.p (sym c.reported.ensures.row ∙ c.in-Some.is) in
    rw c.collect_one.ensures (collect_sound c.args.caller c.in-Some.p c.args.tables.now.rows c.requires.sound at)

pub returns-in-None-clause-collected : goal.returns-in-None-clause-collected
returns-in-None-clause-collected c = grind (arith, answer-unreported c.args.caller c.args.which c.ranges.which c.args.options c.args.tables.now.rows (sym c.reported.ensures.row ∙ c.in-None.is))

pub returns-in-None-2-clause-collected : goal.returns-in-None-2-clause-collected
returns-in-None-2-clause-collected c = grind (arith, answer-unreported c.args.caller c.args.which c.ranges.which c.args.options c.args.tables.now.rows (sym c.reported.ensures.row ∙ c.in-None-2.is))
