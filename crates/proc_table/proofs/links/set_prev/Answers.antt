use Rattle.proc_table.proofs.CommonNames.{refl, get}
use Rattle.proc_table.proofs.ListNodes.{put-last, put-prev}
use Rattle.proc_table.proofs.links.set_prev.Goals as goal

pub returns-in-None-clause-nodes : goal.returns-in-None-clause-nodes
returns-in-None-clause-nodes c =
    rw c.in-None.is (put-last (get c.args.nodes.now) (get c.set_links.new.nodes) c.args.head c.args.kin c.index.result.now c.links_of-links.result _ c.index.ensures c.links_of-links.ensures c.set_links.ensures.here c.set_links.ensures.others c.args.to refl)

pub returns-in-Some-clause-nodes : goal.returns-in-Some-clause-nodes
returns-in-Some-clause-nodes c =
    rw c.in-Some.is (put-prev (get c.args.nodes.now) (get c.set_links-in-Some.new.nodes) c.in-Some.slot c.args.kin c.index-in-Some.result.now c.links_of-links-in-Some.result _ c.index-in-Some.ensures
    c.links_of-links-in-Some.ensures c.set_links-in-Some.ensures.here c.set_links-in-Some.ensures.others c.args.to c.args.head refl)
