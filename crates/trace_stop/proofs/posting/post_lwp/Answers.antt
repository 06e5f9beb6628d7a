use Rattle.trace_rows.specs.Stop.{post}
use Rattle.trace_stop.proofs.CommonNames.{◌≡◌, true, Some, sym, ap, subst, ◌∙◌, process_of, process_of-pid, own_row, is_live_at, live_row}
use Rattle.trace_stop.proofs.posting.post_lwp.Goals as goal

pub post_to-requires : goal.post_to-requires
post_to-requires c =
    let rows = c.args.tables.now.rows in
    let at : process_of c.args.pid rows.processes ≡ Some c.in-Some.process = sym c.process.ensures.row ∙ c.in-Some.is in
    let number = process_of-pid c.args.pid c.in-Some.process rows.processes at in
    record { sound = c.requires.sound; at = own_row c.args.pid c.in-Some.process rows.processes at; live = subst (λ n. is_live_at n rows ≡ true) (sym number) c.requires.live }

pub returns-in-Some-clause-rows : goal.returns-in-Some-clause-rows
returns-in-Some-clause-rows c =
    let rows = c.args.tables.now.rows in
    let number = process_of-pid c.args.pid c.in-Some.process rows.processes (sym c.process.ensures.row ∙ c.in-Some.is) in
    c.post_to.ensures.rows ∙ ap (λ n. post c.args.settings c.args.signal (Some c.args.tid) n rows) number

pub returns-in_default : goal.returns-in_default
returns-in_default c =
    let row = live_row c.args.tables.now.rows c.args.pid c.requires.sound.stands.rising c.requires.live in
    absurd (cc (row.1, c.process.ensures.row, c.in_default.is))
