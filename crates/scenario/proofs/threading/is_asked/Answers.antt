use Rattle.std.proofs.Common.{not, map, sym, ap, ◌∙◌}
use Rattle.scenario.proofs.CommonNames.{length-map, vec_len, own_step}
use Rattle.scenario.proofs.ThreadLemmas.{are_some}
use Rattle.scenario.proofs.threading.is_asked.Goals as goal

pub returns : goal.returns
returns g c = ap not c.is_empty.ensures ∙ are_some (map own_step c.args.script.now.steps.items) (vec_len c.args.script.now.steps) (c.args.script.now.steps.ok.0 ∙ sym (length-map c.args.script.now.steps.items own_step))
