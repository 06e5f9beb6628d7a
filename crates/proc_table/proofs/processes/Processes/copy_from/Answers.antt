use Rattle.lwp_table.proofs.CopyLemmas.{from-ok, get-same}
use Rattle.proc_table.proofs.processes.Processes.copy_from.Goals as goal

pub invariant_of-self : goal.invariant_of-self
invariant_of-self c =
    let nodes = get-same c.source.inside.nodes c.copy_values.new.slots (from-ok c.copy_values.result c.if-is_ok.ensures.value c.copy_values.ensures) in
    let slots = from-ok c.copy_entries.result c.if-is_ok-2.ensures.value c.copy_entries.ensures in
    rw (nodes, slots) c.source.invariant
