-- One row, when a process that is doomed and traces no live one ends before the process that dooms it.
use Rattle.trace_stop.proofs.CommonNames.{is_this, ◌≡◌, ℕ, Bool, true, false, not, ◌&&◌, ◌||◌, ◌==◌, if◌then◌else◌, Option, arith, rules, option_and_then, SIGKILL, by_owner, ProcData, LwpData, is_live, keep}
use Rattle.trace_stop.proofs.CommonNames.{exists, process_after, lwp_after, nat_tests}
use Rattle.trace_stop.proofs.Told.{fallen, tells, told_by}

-- the doom of only q, and a doom without q
abbrev pub alone : ℕ → ℕ → Bool
alone q n = n == q

abbrev pub rest : (ℕ → Bool) → ℕ → ℕ → Bool
rest d q n = d n && not (n == q)

module _ (d : ℕ → Bool) (q : ℕ) (dq : d q ≡ true) where
  parent_twice : (n : ℕ) → (if rest d q (if alone q n then 1 else n) then 1 else (if alone q n then 1 else n)) ≡ (if d n then 1 else n)
  parent_twice n = grind (arith, nat_tests)

  tracer_twice : (o : Option ℕ) → keep (λ t. not (rest d q t)) (keep (λ t. not (alone q t)) o) ≡ keep (λ t. not (d t)) o
  tracer_twice o = grind (arith, nat_tests)

  module _ (p status : ℕ) (qp : (q == p) ≡ false) (r : ProcData) (free : is_live r ≡ true → is_this q r.tracer ≡ false) where
    abbrev ended : Option ProcData
    ended = process_after (fallen (alone q)) (alone q) q SIGKILL r

    pub row_twice : option_and_then (process_after (fallen (rest d q)) (rest d q) p status) ended ≡ process_after (fallen d) d p status r
    row_twice = grind (arith, nat_tests, parent_twice, tracer_twice)

    pub lwp_twice : is_live r ≡ true → (l : LwpData) → option_and_then (λ k. by_owner (lwp_after (fallen (rest d q)) (rest d q)) k ended) (lwp_after (fallen (alone q)) (alone q) r l) ≡ lwp_after (fallen d) d r l
    lwp_twice live l = grind (arith, nat_tests, live, parent_twice)

    module _ (x : ℕ) where
      abbrev Twice : Type 0
      Twice = tells d x r ≡ ((tells (alone q) x r && not (rest d q x)) || exists (tells (rest d q) x) ended)

      tells-live : is_live r ≡ true → (alone q r.pid ≡ true → exists d r.tracer ≡ true) → Twice
      unfolding tells told_by
      tells-live live traced = let untraced = free live in rw live (grind (arith, nat_tests, traced, untraced, parent_twice, tracer_twice))

      tells-zombie : is_live r ≡ false → Twice
      unfolding tells told_by
      tells-zombie dead = rw dead (grind (arith, nat_tests, parent_twice))

      pub tells_twice : (is_live r ≡ true → alone q r.pid ≡ true → exists d r.tracer ≡ true) → Twice
      tells_twice traced = search (rules, tells-live, tells-zombie)
