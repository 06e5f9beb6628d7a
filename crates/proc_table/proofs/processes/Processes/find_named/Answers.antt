use Rattle.proc_table.proofs.CommonNames.{sym, ◌∙◌, FnReturnsAt}
use Rattle.proc_table.proofs.Firsts.{first-none, first-unnamed, first-some}
use Rattle.proc_table.proofs.processes.Processes.find_named.Goals as goal

pub first_slot-requires-clause-linked : goal.first_slot-requires-clause-linked
first_slot-requires-clause-linked g c = c.self.invariant.are_linked.linked c.args.kin

pub returns-in_err-head : goal.returns-in_err-head
returns-in_err-head g c = rw (← c.self.view_is) (λ t decides.
    c.from_residual.ensures ∙ sym (first-unnamed c.self.invariant c.args.kin c.args.pid (FnReturnsAt g.F.Fn c.args.test) t decides (sym (rw c.get-number.ensures.number at c.in_err-head.ensures))))

pub returns-in_err-slot : goal.returns-in_err-slot
returns-in_err-slot g c = rw (← c.self.view_is) (λ t decides.
    c.from_residual-in_err-slot.ensures ∙ sym (first-none c.self.invariant c.args.kin c.args.pid (FnReturnsAt g.F.Fn c.args.test) t decides (rw c.get-number.ensures.number at c.in_err-slot.ensures)))

pub returns : goal.returns
returns g c = rw (← c.self.view_is) (λ t decides.
    sym (first-some c.self.invariant c.args.kin c.args.pid (FnReturnsAt g.F.Fn c.args.test) t decides c.in_ok-slot.slot c.index.result.now c.index.ensures (rw c.get-number.ensures.number at c.in_ok-slot.ensures)))
