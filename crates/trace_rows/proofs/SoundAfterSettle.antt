-- Settling and posting keep rows sound.
use Rattle.trace_rows.proofs.CommonNames.{nat_tests, LwpData, ProcData, State, Run, is_live, is_zombie_state, reporting, Rows, change, unwanted, posted_process, posted_lwp, IfEnded, FitProcess, FitLwp, ◌≡◌, ◌⊎◌, inl}
use Rattle.trace_rows.proofs.CommonNames.{ℕ, Bool, true, false, Option, None, is_none, refl, sym, ◌∙◌, bit_and, arith, rules}
use Rattle.trace_rows.proofs.Every.{and_right}
use Rattle.trace_rows.proofs.Bits.{without_apart}
use Rattle.trace_rows.proofs.SoundAfterEdit.{Holds}
use Rattle.trace_rows.proofs.ProcessEdits.{changes_hold}

-- a live process is no zombie
pub live_fits : (p : ProcData) (s : State) → is_zombie_state s ≡ false → IfEnded p s
live_fits p s live = grind (arith, live)

pub live_state : (p : ProcData) → is_live p ≡ true → is_zombie_state p.state ≡ false
live_state p live = grind (arith, nat_tests)

-- the same row with another pending set, which has nothing that is unwanted
pub pending_fits : (p : ProcData) (n : ℕ) → FitProcess p → is_live p ≡ true → (p.tracer ≡ None → bit_and n (unwanted p) ≡ 0) → FitProcess (record p { pending = n })
pending_fits p n fit live apart = grind (arith, nat_tests)

pub lwp_pending_fits : (p q : ProcData) (l : LwpData) (n : ℕ) → FitLwp p l → q.tracer ≡ p.tracer → (reporting q ≡ reporting p) ⊎ (reporting q ≡ None) → (reporting q ≡ None → reporting p ≡ None) → (q.tracer ≡ None → bit_and n (unwanted q) ≡ 0) → FitLwp q (record l { pending = n })
lwp_pending_fits p q l n fit same by none apart = grind (arith, nat_tests)

-- A process that a signal is posted to

pub posted_report : (s : ℕ) (to : Option ℕ) (p : ProcData) → reporting (posted_process s to p) ≡ reporting p
posted_report s to p = grind (arith, nat_tests)

pub posted_same : {X : Type 0} (view : ProcData → X) (s : ℕ) (to : Option ℕ) (p : ProcData) → ((n : ℕ) → view (record p { pending = n }) ≡ view p) → ((n : ℕ) → view (record p { pending = n; state = Run; continued = true }) ≡ view p) → view (posted_process s to p) ≡ view p
posted_same view s to p h k = grind (arith, h, k)

pub posted_live : (s : ℕ) (to : Option ℕ) (p : ProcData) → is_live p ≡ true → is_live (posted_process s to p) ≡ true
posted_live s to p live = grind (arith, nat_tests)

unwanted_posted : (s : ℕ) (to : Option ℕ) (p : ProcData) → unwanted (posted_process s to p) ≡ unwanted p
unwanted_posted s to p = posted_same unwanted s to p (λ n. refl) (λ n. refl)

-- Posting to chosen live processes
abbrev pub LiveFit : (ProcData → Bool) → ProcData → Type 0
LiveFit chosen p = FitProcess p × (chosen p ≡ true → is_live p ≡ true)

pub post_chosen : (rows : Rows) (chosen : ProcData → Bool) (s : ℕ) (to : Option ℕ) → Holds (LiveFit chosen) FitLwp rows → Holds FitProcess FitLwp (change chosen (posted_process s to) (posted_lwp s to) rows)
post_chosen rows chosen s to held = changes_hold rows chosen (posted_process s to) (posted_lwp s to) (LiveFit chosen) FitLwp FitProcess FitLwp held (record {
  same = λ p. (posted_same (λ q. q.pid) s to p (λ n. refl) (λ n. refl), posted_same (λ q. q.uid) s to p (λ n. refl) (λ n. refl), posted_same (λ q. q.tracer) s to p (λ n. refl) (λ n. refl), posted_same (λ q. q.parent) s to p (λ n. refl) (λ n. refl));
  same_lwp = λ p l. (refl, refl, refl, refl);
  live = λ p row is. posted_live s to p (row.fact.1 is) ∙ sym (row.fact.1 is);
  named = λ p row is. inl (posted_report s to p);
  fits = λ p row is. let fit = row.fact.0 in let live = row.fact.1 is in search (rules, is_none, pending_fits, without_apart, and_right);
  rest = λ p row is. row.fact.0;
  fit_lwp = λ p l b is. let fit = b.fact in search (rules, lwp_pending_fits, posted_same, posted_report, bit_and, unwanted_posted, without_apart);
  rest_lwp = λ p l b is. b.fact;
})
