-- Settling makes rows sound that are so except in the pending sets of one process.
use Rattle.trace_rows.proofs.CommonNames.{nat_tests, LwpData, ProcData, is_live, process_of, Rows, change, change_process, is_numbered, unwanted, settled_process, settled_lwp, settle, FitProcess, FitLwp, IsSound, FitButPending}
use Rattle.trace_rows.proofs.CommonNames.{FitLwpButPending, IsSoundButPending, ◌≡◌, inl, ℕ, true, Some, refl, sym, subst, eqb-true, bit_and, arith, Actions}
use Rattle.std.proofs.lemmas.Nat.{and_le_l}
use Rattle.trace_rows.proofs.SoundAfterSettle.{pending_fits, lwp_pending_fits}
use Rattle.trace_rows.proofs.Single.{process_alone}
use Rattle.trace_rows.proofs.CommonLemmas.{without_apart, Holds, holds_sound, sound_holds, row_is, changes_hold, not_same}

pub settle_sound : (rows : Rows) (pid : ℕ) → IsSoundButPending pid rows → IsSound (settle pid rows)
settle_sound rows pid s = sound_holds (settle pid rows) (changes_hold rows (is_numbered pid) settled_process settled_lwp (FitButPending pid) (FitLwpButPending pid) FitProcess FitLwp (record { stands = s.stands; processes = s.processes; lwps = s.lwps }) (record {
  same = λ p. (refl, refl, refl, refl);
  same_lwp = λ p l. (refl, refl, refl, refl);
  live = λ p row is. refl;
  named = λ p row is. inl refl;
  fits = λ p row is. let h = row.fact.1 (eqb-true p.pid pid is) in pending_fits (record p { pending = 0 }) _ h.0 h.1 (λ none. without_apart p.pending (unwanted p));
  rest = λ p row is. row.fact.0 (not_same p.pid pid is);
  fit_lwp = λ p l b is. lwp_pending_fits p (settled_process p) (record l { pending = 0 }) _ (b.fact.1 (eqb-true p.pid pid is)) refl (inl refl) (λ e. e) (λ none. without_apart l.pending (unwanted p));
  rest_lwp = λ p l b is. b.fact.0 (not_same p.pid pid is);
}))

pub zero_apart : (n : ℕ) → bit_and 0 n ≡ 0
zero_apart n = omega (arith, and_le_l 0 n)

-- a live process with other dispositions is fit except for what is pending
pub redisposed : (d : Actions) (p : ProcData) → FitProcess p → is_live p ≡ true → FitProcess (record p { dispositions = d; pending = 0 })
redisposed d p fit live = grind (arith, nat_tests)

pub redisposed_lwp : (d : Actions) (p : ProcData) (l : LwpData) → FitLwp p l → FitLwp (record p { dispositions = d }) (record l { pending = 0 })
redisposed_lwp d p l fit = lwp_pending_fits p (record p { dispositions = d }) l 0 fit refl (inl refl) (λ e. e) (λ none. zero_apart (unwanted (record p { dispositions = d })))

-- A live process gets other dispositions, and is settled
module _ (rows : Rows) (pid : ℕ) (p : ProcData) (dispose : ProcData → Actions) (s : IsSound rows) (at : process_of pid rows.processes ≡ Some p) (live : is_live p ≡ true) where
  abbrev to : ProcData → ProcData
  to q = record q { dispositions = dispose q }

  loose : Holds (FitButPending pid) (FitLwpButPending pid) (change (is_numbered pid) to (λ q l. l) rows)
  loose = changes_hold rows (is_numbered pid) to (λ q l. l) FitProcess FitLwp (FitButPending pid) (FitLwpButPending pid) (holds_sound rows s) (record {
    same = λ q. (refl, refl, refl, refl);
    same_lwp = λ q l. (refl, refl, refl, refl);
    live = λ q row is. refl;
    named = λ q row is. inl refl;
    fits = λ q row is. (λ ne. absurd (ne (eqb-true q.pid pid is)), λ same. let alive = subst (λ r. is_live r ≡ true) (sym (row_is row at same)) live in (redisposed (dispose q) q row.fact alive, alive));
    rest = λ q row is. (λ ne. row.fact, λ same. absurd (not_same q.pid pid is same));
    fit_lwp = λ q l b is. (λ ne. absurd (ne (eqb-true q.pid pid is)), λ same. redisposed_lwp (dispose q) q l b.fact);
    rest_lwp = λ q l b is. (λ ne. b.fact, λ same. absurd (not_same q.pid pid is same));
  })

  pub disposed_sound : IsSound (settle pid (change_process pid to rows))
  disposed_sound = settle_sound (change_process pid to rows) pid (subst (IsSoundButPending pid) (process_alone pid to rows) (record { stands = loose.stands; processes = loose.processes; lwps = loose.lwps }))
