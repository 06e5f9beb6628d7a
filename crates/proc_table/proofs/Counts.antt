-- How many rows each user has, under edits.
use Rattle.proc_table.proofs.CommonNames.{nat_tests, ◌≡◌, ◌≢◌, ℕ, ◌+◌, ◌-◌, ◌≤◌, Bool, List, [], ◌∷◌, map, Some, ap, nat_eq, cond, arith, length, set, filter, not}
use Rattle.proc_table.proofs.CommonNames.{count_by, AllByRecursion, get_or-set_same, get_or-set_other, IsUser, slot, pid_block, ProcData, process_of, placed, AllAbove, Rise, InOwnBlock}
use Rattle.proc_table.proofs.CommonNames.{put_process, IsTally, count-put}
use Rattle.lwp_table.proofs.Numbered.{count-cons, count-without as fewer}
use Rattle.proc_table.proofs.Rising.{Lacks, once}
use Rattle.proc_table.proofs.Placed.{stands}
use Rattle.proc_table.proofs.Finds.{equal_or_not}

abbrev pub of : ℕ → ProcData → Bool
of u p = nat_eq p.uid u

module _ (u : ℕ) where
  pub count-placed : (new : ProcData) (ps : List ProcData) → Rise ps → Lacks new.pid ps → count_by (of u) (placed new ps) ≡ cond (nat_eq new.uid u) 1 0 + count_by (of u) ps
  count-placed new [] r lacks = grind (arith, nat_tests, count-cons (of u) new)
  count-placed new (p ∷ ps) r lacks = grind (arith, nat_tests, count-placed new ps r.1 lacks.1, stands new p ps r lacks.0, count-cons (of u) p (placed new ps), count-cons (of u) p ps, count-cons (of u) new (p ∷ ps))

  pub count-set : (new was : ProcData) (ps : List ProcData) → Rise ps → process_of new.pid ps ≡ Some was → was.uid ≡ new.uid → count_by (of u) (map (put_process new) ps) ≡ count_by (of u) ps
  count-set new was ps r found same = count-put (λ (p : ProcData). p.pid) (of u) new was ps (once ps r) found (ap (λ n. nat_eq n u) same)

  pub count-without : (gone : ℕ) (was : ProcData) (ps : List ProcData) → Rise ps → process_of gone ps ≡ Some was
      → count_by (of u) (filter (λ p. not (nat_eq p.pid gone)) ps) + cond (nat_eq was.uid u) 1 0 ≡ count_by (of u) ps
  count-without gone was ps r found = fewer (λ (p : ProcData). p.pid) (of u) gone was ps (once ps r) found

  -- a user has no more rows than numbers from `low` on
  pub count-le : (low : ℕ) (ps : List ProcData) → IsUser u → Rise ps → AllByRecursion InOwnBlock ps → AllAbove low ps → (pid_block u).first ≤ low + 1 → count_by (of u) ps ≤ (pid_block u).first + 999 - low
  count-le low [] user r in_own_blocks above from = grind (arith, nat_tests)
  count-le low (p ∷ ps) user r in_own_blocks above from = grind (arith, nat_tests, count-le p.pid ps user r.1 in_own_blocks.1 r.0, equal_or_not p.uid u, count-cons (of u) p ps)

  pub count-below : (ps : List ProcData) → IsUser u → Rise ps → AllByRecursion InOwnBlock ps → count_by (of u) ps ≤ 1000
  count-below [] user r in_own_blocks = omega arith
  count-below (p ∷ ps) user r in_own_blocks = grind (arith, nat_tests, count-le p.pid ps user r.1 in_own_blocks.1 r.0, count-cons (of u) p ps, in_own_blocks.0.block, count-below ps user r.1 in_own_blocks.1)

-- the counts after a change of one user's
pub tally-set : (counts : List ℕ) (rows rows' : List ProcData) (owner n : ℕ) → length counts ≡ 64 → IsUser owner
    → n ≡ count_by (of owner) rows' → ((u : ℕ) → u ≢ owner → count_by (of u) rows' ≡ count_by (of u) rows) → IsTally counts rows → IsTally (set counts (slot owner) n) rows'
tally-set counts rows rows' owner n long user own others tally u its = grind (arith, nat_tests, get_or-set_same, get_or-set_other, others u, tally u its)
