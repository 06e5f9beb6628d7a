use Rattle.scenario_runs.proofs.CommonNames.{◌∙◌}
use Rattle.scenario_runs.proofs.ShortLines.{told}
use Rattle.scenario_runs.proofs.short_lines.push_told.Goals as goal

pub returns : goal.returns
returns c =
    let r = c.requires in
    c.push_info.ensures ∙ told c.args.line.now.bytes c.args.info.now c.args.event.now c.args.flags.now r.event r.flags r.quiet.0 r.quiet.1
