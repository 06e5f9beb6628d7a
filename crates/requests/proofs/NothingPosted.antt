-- A post that leaves all rows: its signal is pending or discarded, and takes no opposed signal away.
use Rattle.requests.proofs.CommonNames.{◌≡◌, ℕ, true, false, ◌==◌, if◌then◌else◌, arith, refl, sym, ap, ◌∙◌, subst, cases_Bool, eqb-true, All-imply, own_rows, Option, Some, None, ProcData, Rows, Settings, process_of, post}
use Rattle.trace_rows.proofs.CommonNames.{LwpData, IsSound, FitLwp, WithOwner, SIGKILL, without, bit_and, change, is_numbered, continues, posted_lwp, posted_process, posted_set, unwanted, inl, inr}
use Rattle.trace_rows.specs.CommonNames.{opposed, SIGCONT}
use Rattle.trace_rows.proofs.CommonLemmas.{edit_none, lwps_left}
use Rattle.trace_rows.proofs.Notified.{notified-none}
use Rattle.trace_rows.proofs.Passes.{each_equal}
use Rattle.trace_rows.proofs.Bits.{without_none}
use Rattle.std.specs.Int.{bit_at}
use Rattle.std.proofs.lemmas.Bool.Decides.{eqb_tells}
use Rattle.std.proofs.lemmas.Nat.Bits.{bit_at_and, bit_at_or, bit_at_xor, bit_at-lt, bit_at-zero, same_from_bits}
use Rattle.std.proofs.lemmas.Option.{same_Some}

-- what shares nothing with a set loses nothing by it
apart_whole : (a b : ℕ) → bit_and a b ≡ 0 → without a b ≡ a
apart_whole a b none = same_from_bits _ _ (λ i. let is = ap (λ x. bit_at x i) none in simp (bit_at_or, bit_at_xor) (omega (arith, simp (bit_at_and, bit_at-zero) at is, bit_at-lt a i, bit_at-lt b i)))

-- no pending signal of an LWP is one that its process discards
kept_pending : (q : ProcData) (l : LwpData) → FitLwp q l → without l.pending (unwanted q) ≡ l.pending
kept_pending q l fit = by q.tracer refl
  where
    by : (o : Option ℕ) → q.tracer ≡ o → without l.pending (unwanted q) ≡ l.pending
    by None is = apart_whole l.pending (unwanted q) (fit.untraced is).pending
    by (Some t) is = rw is (without_none l.pending)

module _ (s pid : ℕ) (p : ProcData) (rows : Rows) (sound : IsSound rows) (at : process_of pid rows.processes ≡ Some p) (free : opposed s ≡ 0) (same : posted_set s true p p.pending ≡ p.pending) where
  calm : continues s p ≡ false
  calm = elim (cases_Bool (s == SIGCONT)) [
    | inl e ↦ let none = subst (λ n. opposed n ≡ 0) (eqb-true s SIGCONT e) free in absurd (omega (arith, none))
    | inr e ↦ rw e refl
  ]

  own_stays : posted_process s None p ≡ p
  own_stays = rw calm (ap (λ x. record p { pending = x }) same)

  process_stays : (q : ProcData) → process_of q.pid rows.processes ≡ Some q → Some (if q.pid == pid then posted_process s None q else q) ≡ Some q
  process_stays q there = elim (eqb_tells q.pid pid) [
    | inl h ↦ let is : q ≡ p = same_Some q p (sym there ∙ (ap (λ n. process_of n rows.processes) h.1 ∙ at)) in rw h.0 (ap (λ r. Some r) (subst (λ r. posted_process s None r ≡ r) (sym is) own_stays))
    | inr h ↦ rw h.0 refl
  ]

  lwp_kept : (q : ProcData) (l : LwpData) → FitLwp q l → posted_lwp s None q l ≡ l
  lwp_kept q l fit = ap (λ x. record l { pending = x }) (ap (λ x. without (without l.pending x) (unwanted q)) free ∙ (ap (λ x. without x (unwanted q)) (without_none l.pending) ∙ kept_pending q l fit))

  lwp_stays : (q : ProcData) (l : LwpData) → FitLwp q l → Some (if q.pid == pid then posted_lwp s None q l else l) ≡ Some l
  lwp_stays q l fit = elim (eqb_tells q.pid pid) [
    | inl h ↦ rw h.0 (ap (λ r. Some r) (lwp_kept q l fit))
    | inr h ↦ rw h.0 refl
  ]

  unchanged : change (is_numbered pid) (posted_process s None) (posted_lwp s None) rows ≡ rows
  unchanged =
      each_equal _ (λ q. Some q) _ (λ q l. Some l) rows (All-imply _ _ process_stays rows.processes (own_rows rows.processes sound.stands.rising))
      (All-imply (WithOwner rows FitLwp) _ (λ l fit q there. lwp_stays q l (fit q there)) rows.lwps sound.lwps)
      ∙ rw (edit_none (λ q. Some q) (λ q. refl) rows.processes, lwps_left rows) refl

  pub nothing_posted : (settings : Settings) → (s == SIGKILL) ≡ false → post settings s None pid rows ≡ rows
  nothing_posted settings other = rw (other, at, calm) (notified-none _ ∙ unchanged)
