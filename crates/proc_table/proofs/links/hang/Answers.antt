use Rattle.proc_table.proofs.CommonNames.{refl, get}
use Rattle.proc_table.proofs.ListNodes.{put-hung}
use Rattle.proc_table.proofs.links.hang.Goals as goal

pub returns-clause-nodes : goal.returns-clause-nodes
returns-clause-nodes c =
    put-hung (get c.args.nodes.now) (get c.set_links.new.nodes) c.args.slot c.args.kin c.index.result.now c.links_of-links.result _ c.index.ensures c.links_of-links.ensures c.set_links.ensures.here c.set_links.ensures.others
    c.args.list_owner c.args.prev c.args.next refl
