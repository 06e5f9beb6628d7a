use Rattle.visibility.proofs.CommonNames.{ap, map, ◌∙◌}
use Rattle.visibility.proofs.Pairs.{pairs_same}
use Rattle.visibility.proofs.Walked.{as_installed}
use Rattle.visibility.proofs.equality.same_handlers.Goals as goal

pub returns : goal.returns
returns c =
    let mine = ap (map as_installed) c.as_slice.ensures.value ∙ ap (λ v. v.installed) c.mine.view_is in
    let others = ap (map as_installed) c.as_slice-2.ensures.value ∙ ap (λ v. v.installed) c.other.view_is in
    pairs_same c.same_pairs.result c.as_slice.result.now c.as_slice-2.result.now c.args.mine.now.installed c.args.other.now.installed mine others c.same_pairs.ensures
