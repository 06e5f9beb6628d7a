use Rattle.trace_rows.proofs.CommonNames.{IsSound, MayStop, ◌≡◌, Some, None, [], ◌∷◌, sym, ap, ◌∙◌, rules, ℕ, false, lwp_of, process_of, set_process, set_lwp, TableInvariant, notified, tracers, stop, LwpData, ProcData, Trace, Rows, change_process, tracer_in}
use Rattle.trace_rows.proofs.CommonNames.{lwp_of-tid, process_of-pid, StopInfo}
use Rattle.trace_rows.proofs.Notified.{notified-none}
use Rattle.trace_rows.proofs.SoundAfterStop.{stopped_sound}
use Rattle.proc_table.proofs.Changes.{change_lwp-at}
use Rattle.trace_rows.proofs.CommonLemmas.{own_row}
use Rattle.trace_rows.proofs.tracing.stop.Goals as goal

-- A trace stop as edits of two rows

abbrev stopped_by : ℕ → StopInfo → ProcData → ProcData
stopped_by tid shown p = record p { state = Trace tid shown.sig false }

abbrev showing : StopInfo → LwpData → LwpData
showing shown l = record l { flags = shown.flags; child = shown.child; code = shown.code }

-- if both rows are written, and the tracer, if any, is notified
stop-done : (pid tid : ℕ) (shown : StopInfo) (rows mid made out : Rows) (p : ProcData) (l : LwpData) → TableInvariant rows → process_of pid rows.processes ≡ Some p → lwp_of tid rows.lwps ≡ Some l
    → mid ≡ change_process pid (stopped_by tid shown) rows → made ≡ set_lwp (showing shown l) mid → out ≡ notified (tracers p.tracer) made → (out ≡ stop pid tid shown rows) × (MayStop pid tid shown rows → IsSound out)
stop-done pid tid shown rows mid made out p l k at there set written told =
    let shows = change_lwp-at tid (showing shown) rows l k.differ there (lwp_of-tid tid l rows.lwps there) in
    let done : out ≡ stop pid tid shown rows = cc (ap tracer_in at, ap (change_process pid (stopped_by tid shown)) shows) in
    (done, λ may. rw done (stopped_sound rows pid tid shown p l at there may))

pub returns-in-Some : goal.returns-in-Some
returns-in-Some c =
    let p = c.unwrap-p.result in
    let told : tracers p.tracer ≡ c.get.result ∷ [] = ap tracers c.in-Some.is ∙ ap (λ n. n ∷ []) (sym c.get.ensures.number) in
    let done = stop-done c.args.pid c.args.tid c.args.shown.now c.args.tables.now.rows _ _ c.post_sigchld.new.tables.rows p c.unwrap-l.result c.process.ensures.kept (cc) (cc) c.set_state.ensures.rows c.set_lwp.ensures.rows (c.post_sigchld.ensures.rows ∙ ap (λ ts. notified ts c.set_lwp.new.self.rows) (sym told)) in
    record { rows = done.0; sound = done.1 }

pub returns-in_default : goal.returns-in_default
returns-in_default c =
    let p = c.unwrap-p.result in
    let none : p.tracer ≡ None = search rules in
    let done = stop-done c.args.pid c.args.tid c.args.shown.now c.args.tables.now.rows _ _ c.set_lwp.new.self.rows p c.unwrap-l.result c.process.ensures.kept (cc) (cc) c.set_state.ensures.rows c.set_lwp.ensures.rows (sym (ap (λ o. notified (tracers o) c.set_lwp.new.self.rows) none ∙ notified-none c.set_lwp.new.self.rows)) in
    record { rows = done.0; sound = done.1 }
