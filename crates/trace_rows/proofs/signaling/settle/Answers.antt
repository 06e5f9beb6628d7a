use Rattle.trace_rows.proofs.CommonNames.{◌≡◌, Some, refl, process_of, settled_process, settled_lwp, settle, set_process, process_of-pid, change-done, change_process-at}
use Rattle.trace_rows.proofs.Settling.{settle_sound}
use Rattle.trace_rows.specs.Edits.{settled}
use Rattle.trace_rows.proofs.signaling.settle.Goals as goal

pub returns : goal.returns
returns c =
    let rows = c.args.tables.now.rows in
    let pid = c.args.pid in
    let p = c.unwrap-p.result in
    let at : process_of pid rows.processes ≡ Some p = cc in
    let its = process_of-pid pid p rows.processes at in
    let up = c.process.ensures.kept.rising in
    let written : c.set_pending.new.self.rows ≡ set_process (settled_process p) rows = cc (change_process-at pid (λ q. record q { pending = c.difference.result }) rows p up at its) in
    let done : c.settle_lwps.new.tables.rows ≡ settle pid rows =
    change-done pid settled_process settled_lwp (settled c.unwanted-lost.result) p (settled_process p) rows _ _ up at its refl written (λ l. cc) c.settle_lwps.ensures in
    record { rows = done; sound = λ fit. rw done (settle_sound rows pid fit) }
