-- The end of a process keeps rows sound.
use Rattle.trace_rows.proofs.CommonNames.{◌≡◌, ℕ, suc, Bool, true, false, ◌==◌, ◌&&◌, ◌||◌, List, Some, refl, ap, ◌∙◌, arith, eq-eqb, nat_tests, AllByRecursion, ProcData, is_live, traces, process_of, Rows, is_end, IsSound, FitProcess}
use Rattle.trace_rows.proofs.CommonNames.{Settings, tracer_in, tracer_of, end_of}
use Rattle.trace_rows.specs.End.{meets, is_doomed, dooms}
use Rattle.trace_rows.proofs.Every.{or_left, or_right}
use Rattle.trace_rows.proofs.SoundAfterEnds.{end_each_sound}
use Rattle.trace_rows.proofs.Chains.{meets-more, chains_meet}
use Rattle.trace_rows.proofs.CommonLemmas.{both, by_bool, All-imply, All-both, any_holds, find_passes, if_from, Row, holds_sound, row_is, all_rows}

meets_step : (ps : List ProcData) (links p n t : ℕ) → tracer_of ps n ≡ Some t → ((t == p) || meets links ps p t) ≡ true → meets (suc links) ps p n ≡ true
unfolding meets
meets_step ps links p n t is near = grind (arith, is, near)

pub same_test : (a b : Bool) → (a ≡ true → b ≡ true) → (b ≡ true → a ≡ true) → a ≡ b
same_test a b h k = grind (arith, h, k)

module _ (settings : Settings) (rows : Rows) (p : ProcData) (s : IsSound rows) (at : process_of p.pid rows.processes ≡ Some p) (live : is_live p ≡ true) where
  abbrev ends : ProcData → Bool
  ends q = is_doomed settings rows.processes p.pid q

  abbrev over : ℕ → Bool
  over n = dooms settings rows.processes p.pid n

  abbrev Known : ProcData → Type 0
  Known q = Row rows FitProcess q

  known : AllByRecursion Known rows.processes
  known = all_rows rows (holds_sound rows s)

  over_is : (q : ProcData) → Known q → over q.pid ≡ ends q
  over_is q k = same_test (over q.pid) (ends q) (any_holds _ _ _ (λ r its is. grind (arith, nat_tests, row_is its k.at, is)) rows.processes known)
      (λ e. find_passes (λ r. r.pid == q.pid) (λ r. (r.pid == q.pid) && ends r) rows.processes q k.at (both (q.pid == q.pid) (ends q) (eq-eqb q.pid q.pid refl) e))

  ends_live : (q : ProcData) → Known q → ends q ≡ true → is_live q ≡ true
  ends_live q k e = grind (arith, nat_tests, row_is k at, e, live)

  -- a doomed number is p, or if debuggers kill it has a chain to p
  doomed : (t : ℕ) (R : Type 0) → over t ≡ true → (t ≡ p.pid → R) → (settings.kill_on_debugger_exit ≡ true → meets 250 rows.processes p.pid t ≡ true → R) → R
  doomed t R is self far = any_holds _ _ _ (λ r k h. grind (arith, nat_tests, h, self, far)) rows.processes known is

  -- if debuggers kill, a live process that doesn't end has no tracer that ends
  killed : settings.kill_on_debugger_exit ≡ true → (q : ProcData) → Known q → is_live q ≡ true → ends q ≡ false → (t : ℕ) → q.tracer ≡ Some t → over t ≡ false
  killed kills q k alive stays t is = by_bool (over t) (λ dies. doomed t ⊥ dies
      (λ same. far (meets_step rows.processes 249 p.pid q.pid t link (or_left (t == p.pid) (meets 249 rows.processes p.pid t) (eq-eqb t p.pid same))))
      (λ kill met. far (meets-more 249 rows.processes p.pid q.pid (chains_meet rows 251 p.pid q.pid s.stands (meets_step rows.processes 250 p.pid q.pid t link (or_right (t == p.pid) (meets 250 rows.processes p.pid t) met))))))
    where
      link : tracer_of rows.processes q.pid ≡ Some t
      link = ap tracer_in k.at ∙ is

      far : meets 250 rows.processes p.pid q.pid ≡ true → ⊥
      far near = grind (arith, kills, alive, near, stays)

  -- if they don't, and p traces no live process, only p ends
  alone : settings.kill_on_debugger_exit ≡ false → (q : ProcData) → traces p.pid q ≡ false → (t : ℕ) → q.tracer ≡ Some t → over t ≡ false
  alone spares q free t is = by_bool (over t) (λ dies. doomed t ⊥ dies (λ same. grind (arith, nat_tests, same, is, free)) (λ kill met. cc))

  pub end_of_killing : (status : ℕ) → is_end status ≡ true → settings.kill_on_debugger_exit ≡ true → IsSound (end_of settings p.pid status rows)
  end_of_killing status word kills = end_each_sound rows ends over p.pid status s word (All-imply _ _ (λ q k. record { same = over_is q k; live = ends_live q k; kept = λ alive stays. if_from (λ t. over t ≡ false) q.tracer (killed kills q k alive stays) }) rows.processes known)

  pub end_of_sparing : (status : ℕ) → is_end status ≡ true → settings.kill_on_debugger_exit ≡ false → AllByRecursion (λ q. is_live q ≡ true → traces p.pid q ≡ false) rows.processes → IsSound (end_of settings p.pid status rows)
  end_of_sparing status word spares none = end_each_sound rows ends over p.pid status s word (All-imply _ _ (λ q h. record { same = over_is q h.0; live = ends_live q h.0; kept = λ alive stays. if_from (λ t. over t ≡ false) q.tracer (alone spares q (h.1 alive)) }) rows.processes (All-both _ _ rows.processes known none))
