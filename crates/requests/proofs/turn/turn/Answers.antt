use Rattle.requests.proofs.CommonNames.{sym, ◌∙◌}
use Rattle.requests.proofs.HasLwpAfterChange.{acting_seen}
use Rattle.requests.proofs.turn.turn.Goals as goal

pub turn_of-requires-clause-acting : goal.turn_of-requires-clause-acting
turn_of-requires-clause-acting c =
    acting_seen c.args.user c.args.tid c.args.tables.now.rows c.in-Some.l c.in-Some-process.p c.assert_invariant.ensures.differ (sym c.seen_lwp.ensures.row ∙ c.in-Some.is) (sym c.process.ensures.row ∙ c.in-Some-process.is)
