-- A process with one more LWP keeps rows sound.
use Rattle.trace_rows.proofs.CommonNames.{Linked, nat_tests, IsUser, slot, tid_block, InBlock, cursor_after, shows, PL_FLAG_EXITED, LwpData, ProcData, is_live, process_of, Rows, owns, is_lwp, add_lwp, lwp_count_of, InOwnBlock}
use Rattle.trace_rows.proofs.CommonNames.{InOwnersBlock, waited_for, Standing, FitLwp, WithOwner, IsSound, ◌≡◌, ℕ, ◌<◌, ◌≤◌, [], ◌∷◌, true, false, ◌==◌, Some, None, sym, ◌∙◌, subst, arith, length-set, rules, every_found, InBlock-after}
use Rattle.trace_rows.proofs.CommonNames.{cursors-set}
use Rattle.trace_rows.proofs.SoundAfterSpawn.{differ_new, count_last, count_more, any_last, still_few}
use Rattle.trace_rows.proofs.CommonLemmas.{All-imply, All-append, some_is, any_by_number}

-- a new LWP of a live process, whose user has room for it
pub record Joins (rows : Rows) (p : ProcData) (l : LwpData) : Type 0 where
  pub home : process_of p.pid rows.processes ≡ Some p
  pub live : is_live p ≡ true
  pub own : l.pid ≡ p.pid
  pub tid : InBlock (tid_block p.uid) l.tid
  pub new : is_lwp rows l.tid ≡ false
  pub few : lwp_count_of p.uid rows < 1000
  pub here : shows l.flags PL_FLAG_EXITED ≡ false
  pub waits : waited_for l.mode ≡ None
  pub fits : FitLwp p l

module _ (rows : Rows) (p : ProcData) (l : LwpData) (s : IsSound rows) (j : Joins rows p l) where
  abbrev made : Rows
  made = add_lwp p.uid l rows

  owner_is : process_of l.pid rows.processes ≡ Some p
  owner_is = rw j.own j.home

  user : IsUser p.uid
  user = (every_found InOwnBlock (λ q. q.pid == p.pid) rows.processes p s.stands.in_own_blocks j.home).user

  few_lwps : (u : ℕ) → IsUser u → lwp_count_of u made ≤ 1000
  few_lwps u its = still_few (λ w. lwp_count_of w rows) p.uid u 1000 _ (owns u l.pid rows.processes) (count_last (λ k. owns u k.pid rows.processes) rows.lwps l)
      (λ e. grind (arith, any_by_number (λ r. r.uid == u) l.pid rows.processes s.stands.rising, owner_is, e)) j.few (s.stands.few_lwps u its)

  pub joined_sound : IsSound made
  joined_sound =
      let stands = s.stands in
      let differ = differ_new rows l stands.differ j.new in
      let owners = All-append (InOwnersBlock rows) rows.lwps (l ∷ []) stands.in_owners_block ((p, owner_is, j.tid), tt) in
      let slots = length-set rows.tid_cursors (slot p.uid) (cursor_after (tid_block p.uid) l.tid) ∙ stands.tid_slots in
      let cursors = cursors-set tid_block rows.tid_cursors p.uid (cursor_after (tid_block p.uid) l.tid) user stands.tid_slots (InBlock-after (tid_block p.uid) l.tid j.tid (omega arith)) stands.tid_cursors in
      let linked = All-imply (Linked rows) (Linked made) (λ q link. search (rules, any_last, count_more)) rows.processes stands.linked in
      let standing = All-append (WithOwner made (Standing made)) rows.lwps (l ∷ []) (All-imply (WithOwner rows (Standing rows)) _ (λ k h q at. grind (arith, h q at, count_more (λ i. i.pid == q.pid) rows.lwps l)) rows.lwps stands.standing) ((λ q at. grind (arith, nat_tests, owner_is, at)), tt) in
      let lwps = All-append (WithOwner made FitLwp) rows.lwps (l ∷ []) s.lwps ((λ q at. subst (λ r. FitLwp r l) (some_is p q (sym owner_is ∙ at)) j.fits), tt) in
      assumption few_lwps
