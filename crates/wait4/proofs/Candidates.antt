-- The child that is reported, and whether there is a child, by the lists of tracees and of children, and by number.
use Rattle.wait4.proofs.CommonNames.{Option, None, if◌then◌else◌, SFits, to_z, of_z, w64, ◌≡◌, ◌≢◌, ℕ, zero, suc, ℤ, pos, negsuc, List, [], ◌∷◌, find, Bool, ◌&&◌, ◌||◌, ltb, Some, is_some, refl, sym, ap}
use Rattle.wait4.proofs.CommonNames.{◌∙◌, subst, nat_eq, rules, arith, AllByRecursion, list_any, cases_Bool, nat_tests, ProcData, keep, Rows, Rise, InOwnBlock, LeastOrNone, fun_ext}
use Rattle.wait4.proofs.CommonNames.{any-found, least_or_none, All-filter, Options, Tracer, Parent, to_z-of_z, Nothing, NoChild, answer, collect, is_child, fits, names_as, numbered, reportable, lesser}
use Rattle.wait4.proofs.CommonNames.{candidates, reported, ReportedLeast, find-above_zero}
use Rattle.trace_rows.proofs.Every.{find_some}
use Rattle.wait4.proofs.Whole.{all_ones, is_minus_one, is_another}
use Rattle.wait4.proofs.Search.{answer-none, any-never, find-filter, find-lesser, find-never, only_numbered}

same_find : (s t : ProcData → Bool) → ((p : ProcData) → s p ≡ t p) → (ps : List ProcData) → find s ps ≡ find t ps
same_find s t h ps = ap (λ f. find f ps) (fun_ext h)

module _ (caller : ℕ) (options : Options) (rows : Rows) (up : Rise rows.processes) where
  -- for any child
  pub reported-any : reported caller (negsuc zero) options rows
      ≡ lesser (find (λ p. names_as Tracer caller p && reportable options caller p) rows.processes) (find (λ p. names_as Parent caller p && reportable options caller p) rows.processes)
  reported-any =
      find-filter (λ p. is_child caller p && fits (negsuc zero) p) (reportable options caller) rows.processes
      ∙ same_find _ (λ p. (names_as Tracer caller p && reportable options caller p) || (names_as Parent caller p && reportable options caller p)) (λ p. grind arith) rows.processes
      ∙ find-lesser (λ p. names_as Tracer caller p && reportable options caller p) (λ p. names_as Parent caller p && reportable options caller p) rows.processes up

  -- for the one with a number
  pub reported-numbered : (which : ℤ) → which ≢ negsuc zero → reported caller which options rows ≡ keep (λ p. is_child caller p && reportable options caller p) (numbered which rows.processes)
  reported-numbered (pos n) other =
      find-filter (λ p. is_child caller p && fits (pos n) p) (reportable options caller) rows.processes
      ∙ same_find _ (λ p. nat_eq p.pid n && (is_child caller p && reportable options caller p)) (λ p. grind arith) rows.processes
      ∙ only_numbered (λ p. is_child caller p && reportable options caller p) n rows.processes up
  reported-numbered (negsuc zero) other = absurd (other refl)
  reported-numbered (negsuc (suc k)) other =
      find-filter (λ p. is_child caller p && fits (negsuc (suc k)) p) (reportable options caller) rows.processes
      ∙ find-never _ (λ p. grind arith) rows.processes

-- whether it is a child
module _ (caller : ℕ) (rows : Rows) (up : Rise rows.processes) where
  pub child-numbered : (which : ℤ) → which ≢ negsuc zero → list_any (λ p. is_child caller p && fits which p) rows.processes ≡ is_some (keep (is_child caller) (numbered which rows.processes))
  child-numbered (pos n) other =
      ap (λ f. list_any f rows.processes) (fun_ext (λ (p : ProcData). turned (is_child caller p) (nat_eq p.pid n)))
      ∙ any-found (λ (p : ProcData). p.pid) (λ p. nat_eq p.pid n && is_child caller p) rows.processes
      ∙ ap is_some (only_numbered (is_child caller) n rows.processes up)
    where
      turned : (a b : Bool) → (a && b) ≡ (b && a)
      turned a b = grind arith
  child-numbered (negsuc zero) other = absurd (other refl)
  child-numbered (negsuc (suc k)) other = any-never _ (λ p. grind arith) rows.processes

-- whether any is a child
pub child-any : (caller : ℕ) (ps : List ProcData) → AllByRecursion InOwnBlock ps
    → list_any (λ p. is_child caller p && fits (negsuc zero) p) ps ≡ (is_some (find (λ p. ltb 0 p.pid && names_as Tracer caller p) ps) || is_some (find (λ p. ltb 0 p.pid && names_as Parent caller p) ps))
child-any caller [] in_own_blocks = refl
child-any caller (p ∷ ps) in_own_blocks = search (rules, child-any caller ps in_own_blocks.1, ltb, nat_tests, cases_Bool)

keep-and : (s t : ProcData → Bool) (o : Option ProcData) → keep (λ p. s p && t p) o ≡ keep t (keep s o)
keep-and s t None = refl
keep-and s t (Some p) = grind arith

-- the same of a signed number of 64 bits, as a test of its bits and a call read it
module _ (caller : ℕ) (which : ℤ) (fit : SFits w64 which) (rows : Rows) where
  pub whole-any : AllByRecursion InOwnBlock rows.processes → of_z w64 which ≡ all_ones → list_any (λ p. is_child caller p && fits which p) rows.processes
      ≡ (is_some (find (λ p. ltb 0 p.pid && names_as Tracer caller p) rows.processes) || is_some (find (λ p. ltb 0 p.pid && names_as Parent caller p) rows.processes))
  whole-any blocks is = rw (is_minus_one which fit is) (child-any caller rows.processes blocks)

  pub whole-numbered : Rise rows.processes → of_z w64 which ≢ all_ones
      → list_any (λ p. is_child caller p && fits which p) rows.processes ≡ is_some (keep (is_child caller) (numbered (to_z w64 (of_z w64 which)) rows.processes))
  whole-numbered up other = rw (to_z-of_z w64 which fit) (child-numbered caller rows up which (is_another which fit other))

  pub report-any : (options : Options) → Rise rows.processes → of_z w64 which ≡ all_ones → reported caller which options rows
      ≡ lesser (find (λ p. names_as Tracer caller p && reportable options caller p) rows.processes) (find (λ p. names_as Parent caller p && reportable options caller p) rows.processes)
  report-any options up is = rw (is_minus_one which fit is) (reported-any caller options rows up)

  -- what is told the caller is told by a child of it
  pub report-first : (options : Options) → of_z w64 which ≡ all_ones → reported caller which options rows ≡ find (reportable options caller) rows.processes
  report-first options is = rw (is_minus_one which fit is)
      (find-filter (λ p. is_child caller p && fits (negsuc zero) p) (reportable options caller) rows.processes ∙ same_find _ (reportable options caller) (λ p. grind arith) rows.processes)

  pub report-numbered : (options : Options) → Rise rows.processes → of_z w64 which ≢ all_ones
      → reported caller which options rows ≡ keep (reportable options caller) (keep (is_child caller) (numbered (to_z w64 (of_z w64 which)) rows.processes))
  report-numbered options up other = rw (to_z-of_z w64 which fit)
      (reported-numbered caller options rows up which (is_another which fit other) ∙ keep-and (is_child caller) (reportable options caller) (numbered which rows.processes))

-- what a wait answers that reports no process
pub answer-unreported : (caller : ℕ) (which : ℤ) → SFits w64 which → (options : Options) (rows : Rows) → reported caller (to_z w64 (of_z w64 which)) options rows ≡ None
    → collect caller which options rows ≡ (if list_any (λ p. is_child caller p && fits (to_z w64 (of_z w64 which)) p) rows.processes then Nothing else NoChild)
answer-unreported caller which fit options rows none = rw (to_z-of_z w64 which fit) (ap (answer (candidates caller which rows)) (rw (to_z-of_z w64 which fit) at none) ∙ answer-none (λ p. is_child caller p && fits which p) rows.processes)

-- what holds of every process holds of the one that is reported
pub reported-has : (P : ProcData → Type 0) (caller : ℕ) (which : ℤ) (options : Options) (rows : Rows) (p : ProcData) → AllByRecursion P rows.processes → reported caller which options rows ≡ Some p → P p
reported-has P caller which options rows p all is = (find_some (reportable options caller) P (candidates caller which rows) (All-filter (λ q. is_child caller q && fits which q) P rows.processes all) p is).0

-- the least number is reported
pub reported-least : ReportedLeast
reported-least rows caller which options s =
    subst (LeastOrNone (λ p. (is_child caller p && fits which p) && reportable options caller p) 0 rows.processes)
    (find-above_zero (λ p. (is_child caller p && fits which p) && reportable options caller p) rows.processes s.stands.in_own_blocks ∙ sym (find-filter (λ p. is_child caller p && fits which p) (reportable options caller) rows.processes))
    (least_or_none (λ p. (is_child caller p && fits which p) && reportable options caller p) 0 rows.processes s.stands.rising)
