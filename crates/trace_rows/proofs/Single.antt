-- A change of one process, and of one LWP.
use Rattle.trace_rows.proofs.CommonNames.{nat_tests, LwpData, lwp_of, ProcData, is_live, reporting, process_of, Rows, each, change, change_process, change_lwp, is_numbered, IsLiveChild, FitProcess, waited_for, FitLwp, IsSound, ◌≡◌, ◌⊎◌}
use Rattle.trace_rows.proofs.CommonNames.{inl, ℕ, true, ◌==◌, if◌then◌else◌, Some, None, IfSome, refl, sym, subst, eqb-true, arith, rules}
use Rattle.trace_rows.proofs.SoundAfterEdit.{lwps_alone}
use Rattle.trace_rows.proofs.ProcessEdits.{Alike}
use Rattle.trace_rows.proofs.CommonLemmas.{edit_none, lwp_is, Row, Same, Stay, nobody, holds_sound, sound_holds, row_is, like_self, kept_all, none_gone, no_ring, stay, edit_holds, changes_hold}

-- One process

pub record OneProcess (p : ProcData) (f : ProcData → ProcData) : Type 0 where
  pub same : (q : ProcData) → Alike q (f q)
  pub live : is_live (f p) ≡ is_live p
  pub named : (reporting (f p) ≡ reporting p) ⊎ (reporting (f p) ≡ None)
  pub fits : FitProcess (f p)
  pub fit_lwp : (l : LwpData) → FitLwp p l → FitLwp (f p) l

pub process_alone : (pid : ℕ) (f : ProcData → ProcData) (rows : Rows) → change (is_numbered pid) f (λ p l. l) rows ≡ change_process pid f rows
process_alone pid f rows = search (rules, edit_none)

module _ (rows : Rows) (pid : ℕ) (p : ProcData) (f : ProcData → ProcData) (s : IsSound rows) (at : process_of pid rows.processes ≡ Some p) (c : OneProcess p f) where
  mine : (q : ProcData) → Row rows FitProcess q → (q.pid == pid) ≡ true → p ≡ q
  mine q row is = sym (row_is row at (eqb-true q.pid pid is))

  pub process_sound : IsSound (change_process pid f rows)
  process_sound = subst IsSound (process_alone pid f rows) (sound_holds (change (is_numbered pid) f (λ q l. l) rows) (changes_hold rows (is_numbered pid) f (λ q l. l) FitProcess FitLwp FitProcess FitLwp (holds_sound rows s) (record {
    same = c.same;
    same_lwp = λ q l. (refl, refl, refl, refl);
    live = λ q row is. rw (← mine q row is) c.live;
    named = λ q row is. rw (← mine q row is) c.named;
    fits = λ q row is. rw (← mine q row is) c.fits;
    rest = λ q row is. row.fact;
    fit_lwp = λ q l b is. subst (λ r. FitLwp r l → FitLwp (f r) l) (mine q b.row is) (c.fit_lwp l) b.fact;
    rest_lwp = λ q l b is. b.fact;
  })))

-- One LWP

pub record OneLwp (rows : Rows) (p : ProcData) (l : LwpData) (g : LwpData → LwpData) : Type 0 where
  pub same : (k : LwpData) → ((g k).tid ≡ k.tid) × ((g k).pid ≡ k.pid) × ((g k).flags ≡ k.flags)
  pub waits : IfSome (waited_for (g l).mode) (IsLiveChild rows p)
  pub fit : FitLwp p l → FitLwp p (g l)

module _ (rows : Rows) (tid : ℕ) (p : ProcData) (l : LwpData) (g : LwpData → LwpData) (s : IsSound rows) (at : lwp_of tid rows.lwps ≡ Some l) (home : process_of l.pid rows.processes ≡ Some p) (c : OneLwp rows p l g) where
  abbrev to : LwpData → LwpData
  to k = if k.tid == tid then g k else k

  abbrev made : Rows
  made = each (λ q. Some q) (λ q k. Some (to k)) rows

  same : Same (λ q. Some q) (λ q k. Some (to k))
  same = record { process = λ q. (refl, refl); lwp = λ q k. grind (arith, c.same k) }

  stays : (q : ProcData) → Row rows FitProcess q → Stay rows made q
  stays q row = stay rows (λ r. Some r) (λ r k. Some (to k)) same q row.at (λ k. (to k, refl))

  pub lwp_sound : IsSound (change_lwp tid g rows)
  lwp_sound = subst IsSound (lwps_alone rows s.stands.in_owners_block (λ k. Some (to k))) (sound_holds made (edit_holds rows nobody (λ q. Some q) (λ q k. Some (to k)) FitProcess FitLwp FitProcess FitLwp (holds_sound rows s) (record {
    same = same;
    ring = no_ring (λ q. Some q) rows.processes s.stands.rising same.process (λ q t is. is);
    gone = none_gone rows FitProcess (λ q k. Some (to k));
    process = λ q row. kept_all row (like_self q) (inl refl) (stays q row) row.fact;
    lwp = λ q k b on. grind (arith, nat_tests, b.fact, b.stood, c, at, home, lwp_is b at, stays q b.row);
  })))
