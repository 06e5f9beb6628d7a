use Rattle.proc_table.proofs.CommonNames.{Some, ◌∙◌, get}
use Rattle.proc_table.proofs.LinkedLists.{are_linked-moved}
use Rattle.proc_table.proofs.links.join.Goals as goal

pub returns-in-Some-clause-are_linked : goal.returns-in-Some-clause-are_linked
returns-in-Some-clause-are_linked c =
    are_linked-moved c.args.kin (get c.args.nodes.now) (get c.link.new.nodes) c.args.slots.now.entries c.requires.are_linked c.args.slot (Some c.in-Some.list_owner) c.link.ensures.linked c.link.ensures.joins c.link.ensures.others
    c.link.ensures.rows c.link.ensures.apart (λ t is. c.requires.list_owner t (c.in-Some.is ∙ is))
