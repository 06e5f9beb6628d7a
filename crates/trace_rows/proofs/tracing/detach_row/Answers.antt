use Rattle.trace_rows.proofs.CommonNames.{◌≡◌, Some, sym, ap, ◌∙◌, rules, process_of, is_numbered, map_lwps, set_process, edited, untraced, untraced_lwp, detached, reporter, report_dropped, process_of-pid, process_there}
use Rattle.proc_table.proofs.Stays.{named-untraced}
use Rattle.trace_rows.proofs.Found.{live_row}
use Rattle.trace_rows.proofs.RunOn.{run_on-is}
use Rattle.trace_rows.proofs.SoundAfterPost.{untraced_sound}
use Rattle.trace_rows.proofs.CommonLemmas.{own_row, reporter_there}
use Rattle.trace_rows.specs.declared.edits.Edit.TheVariants as edit
use Rattle.trace_rows.proofs.tracing.detach_row.Goals as goal

pub set_process-requires : goal.set_process-requires
set_process-requires c = search (rules, process_there, named-untraced, own_row c.args.pid c.unwrap-p.result c.args.tables.now.rows.processes (cc))

pub drop_stop-requires : goal.drop_stop-requires
drop_stop-requires c = rw c.set_process.ensures.rows (reporter_there c.args.pid c.args.tables.now.rows c.unwrap-p.result c.requires.sound.stands (cc) c.reporting.result (sym c.reporting.ensures))

pub returns : goal.returns
returns c =
    let rows = c.args.tables.now.rows in
    let pid = c.args.pid in
    let lost = c.args.lost in
    let p = c.unwrap-p.result in
    let o = c.reporting.result in
    let at : process_of pid rows.processes ≡ Some p = cc in
    let row = live_row rows pid c.process.ensures.kept.rising c.requires.live in
    let set : c.set_process.new.self.rows ≡ set_process (untraced lost p) rows = cc in
    let dropped : c.drop_stop.new.tables.rows ≡ report_dropped (reporter o rows.lwps) (set_process (untraced lost p) rows) = c.drop_stop.ensures ∙ ap (λ r. report_dropped (reporter o r.lwps) r) set in
    let done : c.edit_lwps.new.tables.rows ≡ detached (is_numbered pid) (λ q. lost) rows =
    c.edit_lwps.ensures ∙ ap (λ x. map_lwps pid (edited (edit.Detach lost x)) c.drop_stop.new.tables.rows) c.nothing-unwanted.ensures ∙ ap (map_lwps pid (untraced_lwp lost p)) dropped
    ∙ sym (run_on-is pid (untraced lost) (untraced_lwp lost) rows p c.requires.sound.stands c.process.ensures.kept at (process_of-pid pid p rows.processes at) o (sym c.reporting.ensures)) in
    record { rows = done; sound = rw done (untraced_sound rows pid row.0 c.requires.sound row.1 row.2 lost) }
