use Rattle.wait4.proofs.CommonNames.{◌&&◌, find, rules, sym, ap, ◌∙◌, names_as, reportable}
use Rattle.wait4.proofs.collecting.first_report.Goals as goal

pub returns-in-Tracer-clause-row : goal.returns-in-Tracer-clause-row
returns-in-Tracer-clause-row c =
    c.find_tracee.ensures.row (reportable c.args.options c.args.caller) (λ p b there returned. search rules)
    ∙ ap (λ relation. find (λ p. names_as relation c.args.caller p && reportable c.args.options c.args.caller p) c.args.tables.now.rows.processes) (sym c.in-Tracer.is)

pub returns-in-Parent-clause-row : goal.returns-in-Parent-clause-row
returns-in-Parent-clause-row c =
    c.find_child.ensures.row (reportable c.args.options c.args.caller) (λ p b there returned. search rules)
    ∙ ap (λ relation. find (λ p. names_as relation c.args.caller p && reportable c.args.options c.args.caller p) c.args.tables.now.rows.processes) (sym c.in-Parent.is)
