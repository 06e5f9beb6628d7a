use Rattle.trace_rows.proofs.CommonNames.{◌≡◌, sym, ◌∙◌, [], ◌∷◌, notified, process_of-pid}
use Rattle.trace_rows.proofs.Notified.{notified-one}
use Rattle.trace_rows.proofs.CommonLemmas.{own_row, notified_sound}
use Rattle.trace_rows.proofs.signaling.post_sigchld.Goals as goal

pub put-requires : goal.put-requires
put-requires c = own_row c.args.number c.in-Some.p c.args.tables.now.rows.processes (cc)

pub returns-in-Some : goal.returns-in-Some
returns-in-Some c =
    let rows = c.args.tables.now.rows in
    let n = c.args.number in
    let its = process_of-pid n c.in-Some.p rows.processes (cc) in
    let done : c.put.new.tables.rows ≡ notified (n ∷ []) rows = c.put.ensures.rows ∙ rw its (sym (notified-one n rows)) in
    record { rows = done; sound = λ s tell. rw done (notified_sound rows (n ∷ []) s (tell, tt)) }
