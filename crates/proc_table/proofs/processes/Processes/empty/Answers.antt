use Rattle.proc_table.proofs.CommonNames.{ap, get_or, None, get}
use Rattle.proc_table.proofs.Tied.{tied-none}
use Rattle.proc_table.proofs.processes.Processes.empty.Goals as goal

pub invariant_of-result : goal.invariant_of-result
invariant_of-result c = (tied-none (get c.new.result) c.with_hasher.result.entries (λ s. ap (λ slots. get_or slots s None) c.new.ensures.empty)).0

pub returns : goal.returns
returns c = (tied-none (get c.new.result) c.with_hasher.result.entries (λ s. ap (λ slots. get_or slots s None) c.new.ensures.empty)).1
