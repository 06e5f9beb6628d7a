-- A process gets a tracer: the new link closes no ring, and rows stay sound, except perhaps the process itself.
use Rattle.trace_rows.proofs.CommonNames.{nat_tests, ProcData, process_of, Rows, each, change_process, IsLiveOf, FitProcess, FitLwp, IsSound, ◌≡◌, ◌≢◌, ◌⊎◌, inl, ℕ, zero, suc, ◌+◌, true, false, ◌==◌, ◌||◌, if◌then◌else◌, List, [], ◌∷◌}
use Rattle.trace_rows.proofs.CommonNames.{filter_map, Option, Some, refl, sym, ap, ◌∙◌, true≢false, subst, arith, eqb-true, eq-eqb, tracer_in, tracer_of}
use Rattle.event_masks.specs.declared.EventMask.{EventMask}
use Rattle.trace_rows.specs.End.{meets}
use Rattle.trace_rows.proofs.SoundAfterEdit.{NoNewRing, peopled_on, kept_lwp, processes_alone}
use Rattle.trace_rows.proofs.ProcessEdits.{changed_own}
use Rattle.trace_rows.proofs.Chains.{meets-more, meets-up, chains_meet}
use Rattle.trace_rows.proofs.CommonLemmas.{by_bool, choose, Holds, Row, Same, Stay, KeptRow, nobody, holds_sound, row_is, like_self, kept_all, none_gone, stay, edit_holds}

-- Chains

-- from a process to p, and from p on
pub meets_joined : (ps : List ProcData) (j k x p n : ℕ) → meets k ps p n ≡ true → ((p == x) || meets j ps x p) ≡ true → meets (k + j) ps x n ≡ true
unfolding meets
meets_joined ps j zero x p n is on = absurd (true≢false (sym is))
meets_joined ps j (suc k) x p n is on = let one : suc (k + j) ≡ suc k + j = omega arith in subst (λ m. meets m ps x n ≡ true) one (grind (arith, nat_tests, is, on, meets_joined ps j k x p, meets-up k j ps x p))

module _ (ps qs : List ProcData) (p n : ℕ) (here : tracer_of qs p ≡ Some n) (same : (m : ℕ) → m ≢ p → tracer_of qs m ≡ tracer_of ps m) where
  apart : (m t : ℕ) → tracer_of ps m ≡ Some t → ((j : ℕ) → meets j ps p m ≡ false) → (t ≢ p) × ((j : ℕ) → meets j ps p t ≡ false)
  unfolding meets
  apart m t e never = (grind (arith, nat_tests, e, never 1), λ j. grind (arith, nat_tests, e, never (suc j)))

  -- from where p isn't met the links are as they were
  old_links : (links x m : ℕ) → m ≢ p → ((j : ℕ) → meets j ps p m ≡ false) → meets links qs x m ≡ meets links ps x m
  unfolding meets
  old_links zero x m other never = refl
  old_links (suc links) x m other never =
      let rest : (t : ℕ) → tracer_of ps m ≡ Some t → meets links qs x t ≡ meets links ps x t = λ t e. let a = apart m t e never in old_links links x t a.0 a.1 in
      grind (arith, nat_tests, same m other, rest)

  module _ (other : n ≢ p) (never : (j : ℕ) → meets j ps p n ≡ false) where
    -- what is met now was met before, or lies beyond the new link
    met : (links x m : ℕ) → meets links qs x m ≡ true → (meets links ps x m ≡ true) ⊎ ((((m == p) || meets links ps p m) ≡ true) × (((n == x) || meets links ps x n) ≡ true))
    unfolding meets
    met zero x m is = absurd (true≢false (sym is))
    met (suc links) x m is = grind (arith, nat_tests, is, here, same m, met links x, old_links links x n other never, meets-more links ps x n, meets-more links ps p n)

    -- so no ring is closed
    pub no_new_ring : (links x : ℕ) → meets links ps x x ≡ false → meets links qs x x ≡ false
    no_new_ring links x none = by_bool (meets links qs x x) (λ is. grind (arith, nat_tests, met links x x is, none, other, never links, never (links + links), meets_joined ps links links p x n))

-- The rows

module _ (rows : Rows) (p : ProcData) (n : ℕ) (mask : EventMask) (s : IsSound rows) (at : process_of p.pid rows.processes ≡ Some p) (tracer : IsLiveOf rows p.uid n) (other : n ≢ p.pid) (far : meets 250 rows.processes p.pid n ≡ false) where
  abbrev pub linked : ProcData → ProcData
  linked q = record q { tracer = Some n; mask = mask; continued = false }

  abbrev to : ProcData → Option ProcData
  to q = Some (if q.pid == p.pid then linked q else q)

  abbrev left : Rows
  left = change_process p.pid linked rows

  never : (j : ℕ) → meets j rows.processes p.pid n ≡ false
  never j = by_bool _ (λ is. grind (arith, meets-up 1 249 rows.processes p.pid n (chains_meet rows j p.pid n s.stands is), far))

  pub linked_row : process_of p.pid left.processes ≡ Some (linked p)
  linked_row = changed_own p linked rows.processes (λ q. refl) at

  found_other : (m : ℕ) → m ≢ p.pid → (ps : List ProcData) → process_of m (filter_map to ps) ≡ process_of m ps
  found_other m ne [] = refl
  found_other m ne (q ∷ ps) = grind (arith, nat_tests, found_other m ne ps)

  ring : NoNewRing rows.processes left.processes
  ring x none = no_new_ring rows.processes left.processes p.pid n (ap tracer_in linked_row) (λ m ne. ap tracer_in (found_other m ne rows.processes)) other never 250 x none

  abbrev made : Rows
  made = each to (λ q l. Some l) rows

  same_rows : Same to (λ q l. Some l)
  same_rows = grind (arith, nat_tests)

  stays : (q : ProcData) → Row rows FitProcess q → Stay rows made q
  stays q row = stay rows to (λ q l. Some l) same_rows q row.at (λ l. (l, refl))

  -- every row is fit except the one that is traced from now on
  abbrev pub Traced : ProcData → Type 0
  Traced q = (q.pid ≢ p.pid → FitProcess q) × (q.pid ≡ p.pid → q ≡ linked p)

  pub linked_holds : Holds Traced FitLwp (change_process p.pid linked rows)
  linked_holds = subst (Holds Traced FitLwp) (processes_alone to rows) (edit_holds rows nobody to (λ q l. Some l) FitProcess FitLwp Traced FitLwp (holds_sound rows s) (record {
    same = same_rows;
    ring = ring;
    gone = none_gone rows FitProcess (λ q l. Some l);
    process = λ q row. choose (q.pid == p.pid) (linked q) q (KeptRow rows made nobody Traced q) (λ e. let its = row_is row at (eqb-true q.pid p.pid e) in grind (arith, nat_tests, its, e, tracer, row.link, stays q row, peopled_on row (stays q row)))
        (λ e. kept_all row (like_self q) (inl refl) (stays q row) (λ ne. row.fact, λ same. absurd (true≢false (sym (eq-eqb q.pid p.pid same) ∙ e))));
    lwp = λ q l b on. kept_lwp b (stays q b.row) refl refl (grind (arith, nat_tests, b.fact));
  }))
