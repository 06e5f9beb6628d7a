use Rattle.trace_rows.proofs.CommonNames.{arith, ◌≡◌, Some, refl, ap, process_of, edited, posted_process, posted_lwp, set_process, change-done, change_process-at, Run, true}
use Rattle.trace_rows.specs.declared.edits.Edit.TheVariants.{Post}
use Rattle.trace_rows.proofs.Notified.{posted_process-same}
use Rattle.trace_rows.proofs.signaling.put.Goals.{then-continues, else-continues}
use Rattle.trace_rows.proofs.signaling.put.Goals as goal

pub returns-clause-rows : goal.returns-clause-rows
returns-clause-rows c =
    let rows = c.args.tables.now.rows in
    let p = c.args.p.now in
    let pid = p.pid in
    let s = c.args.signal in
    let to = c.args.to.now in
    let at : process_of pid rows.processes ≡ Some p = c.requires in
    let rising = c.assert_invariant.ensures.rising in
    let pending = c.difference-pending.result in
    let set = change_process-at pid (λ q. record q { pending = pending }) rows p rising at refl in
    let run = change_process-at pid (λ q. record q { state = Run; continued = true; pending = pending }) rows p rising at refl in
    let written : c.if-continues.tables.rows ≡ set_process (posted_process s to p) rows = elim c.if-continues.branch [ then-continues w ↦ grind (arith, w, run) | else-continues w ↦ grind (arith, w, set) ] in
    change-done pid (posted_process s to) (posted_lwp s to) (edited (Post s to c.unwanted-lost.result)) p (posted_process s to p) rows _ _ rising at
    (posted_process-same s to p).0 refl written (λ l. ap (λ lost. edited (Post s to lost) l) c.unwanted-lost.ensures) c.post_lwps.ensures
