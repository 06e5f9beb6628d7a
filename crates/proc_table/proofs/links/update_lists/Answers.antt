use Rattle.proc_table.proofs.CommonNames.{get, Tracees, Children}
use Rattle.proc_table.proofs.LinkedLists.{head-kept}
use Rattle.proc_table.proofs.links.update_lists.Goals as goal

pub update_list-requires-clause-list_owner : goal.update_list-requires-clause-list_owner
update_list-requires-clause-list_owner c = c.requires.list_owners Tracees

pub update_list-requires-2-clause-list_owner : goal.update_list-requires-2-clause-list_owner
update_list-requires-2-clause-list_owner c = λ t is.
    let head = c.requires.list_owners Children t is in
    (head.0, head.1, head-kept (get c.args.nodes.now) (get c.update_list.new.nodes) head.0 t (c.update_list.ensures.rows head.0) head.2)
