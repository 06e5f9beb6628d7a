use Rattle.proc_table.proofs.tables.Tables.find_child.Goals as goal

pub returns-clause-row : goal.returns-clause-row
returns-clause-row g c = rw (← c.self.view_is) c.find_child.ensures
