use Rattle.visibility.proofs.CommonNames.{rules, installed_by}
use Rattle.visibility.proofs.Walked.{copied_next, copied_all, as_pair, as_installed, some_installed, none_installed}
use Rattle.visibility.proofs.views.handlers_from.Goals as goal

pub loop-pair-preserved : goal.loop-pair-preserved
loop-pair-preserved g c =
    let next = copied_next as_installed (installed_by c.args.user c.args.host.now) c.loop-pair.pairs.items c.in-Some.pair (some_installed _ c.in-Some.pair (search rules)) c.loop-pair.invariant.kept in
    rw c.in_ok-push.ensures.items (record { within = next.0; kept = next.1 })

pub returns : goal.returns
returns g c = search (rules, as_pair, copied_all, as_installed, none_installed)
