use Rattle.scenario_runs.proofs.CommonNames.{sym, ◌∙◌}
use Rattle.std.specs.Prelude.{decimal}
use Rattle.step_types.specs.{Words.index_text}
use Rattle.scenario_runs.proofs.ShortLines.{decided}
use Rattle.scenario_runs.proofs.short_lines.push_decided.Goals as goal

pub returns : goal.returns
returns c =
    let a = c.args in
    let v = a.view.now in
    let added = decided a.line.now.bytes (decimal a.pid) (decimal c.word.result) (decimal v.tid) (decimal v.sig) a.flags.now (decimal v.child) (decimal v.code) (index_text a.index) a.decision in
    rw (sym c.word.ensures, sym c.requires.flags) (c.push_handled.ensures ∙ added)
