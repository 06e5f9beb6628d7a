-- A walk that takes out the LWPs of a process, and what the end of a vfork wait keeps of an LWP.
use Rattle.trace_stop.proofs.CommonNames.{AllByRecursion, LwpData, Differ, lwp_of, first_lwp, ProcData, Rows, drop_lwp, released, not-false, ◌≡◌, ℕ, ◌<◌, Bool, true, false, List, [], ◌∷◌, length, filter, refl, ap, ◌∙◌}
use Rattle.trace_stop.proofs.CommonNames.{arith, sym, Some, None, subst, eq-eqb, eqb-true, not, ◌==◌, IfSome, every_untested, the_lwp, without_lwps, All-imply}
use Rattle.lwp_table.specs.Lwps.{waits_for}
use Rattle.lwp_table.specs.declared.Mode.{Mode}
use Rattle.lwp_table.specs.declared.Mode.TheVariants.{User, InCall, VforkWait}
use Rattle.trace_rows.specs.End.{waits_where}
use Rattle.lwp_table.proofs.CountLemmas.{length-without}
use Rattle.proc_table.proofs.LwpWalk.{IsLwp, first-found}

-- Lists

pub filter_within : {X : Type 0} (p q : X → Bool) (xs : List X) → AllByRecursion (λ x. q x ≡ false → p x ≡ false) xs → filter p (filter q xs) ≡ filter p xs
filter_within p q [] all = refl
filter_within p q (x ∷ xs) all = grind (arith, all.0, filter_within p q xs all.1)

pub filter_all : {X : Type 0} (p : X → Bool) (xs : List X) → AllByRecursion (λ x. p x ≡ true) xs → filter p xs ≡ xs
filter_all p [] all = refl
filter_all p (x ∷ xs) all = rw (all.0, filter_all p xs all.1) refl

module _ (pid : ℕ) (k : LwpData) (rows : Rows) (d : Differ rows.lwps) (first : first_lwp pid rows.lwps ≡ Some k) where
  its : IsLwp pid rows.lwps k
  its = subst (λ o. IfSome o (IsLwp pid rows.lwps)) first (first-found pid rows.lwps d)

  pub found : lwp_of k.tid rows.lwps ≡ Some k
  found = its.at

  pub removed_same : without_lwps pid (drop_lwp k.tid rows) ≡ without_lwps pid rows
  removed_same = ap (λ ls. record rows { lwps = ls }) (filter_within (λ l. not (l.pid == pid)) (λ l. not (l.tid == k.tid)) rows.lwps
      (All-imply (λ l. l.tid ≡ k.tid → l ≡ k) _ (λ l one out. ap not (eq-eqb l.pid pid (ap (λ x. x.pid) (one (eqb-true l.tid k.tid (not-false (l.tid == k.tid) out))) ∙ its.own))) rows.lwps (the_lwp k.tid rows.lwps k d found)))

  pub removed_less : length (drop_lwp k.tid rows).lwps < length rows.lwps
  removed_less = let one = length-without k.tid k rows.lwps d found in omega (arith, one)

pub removed_all : (pid : ℕ) (rows : Rows) → first_lwp pid rows.lwps ≡ None → without_lwps pid rows ≡ rows
removed_all pid rows none = ap (λ ls. record rows { lwps = ls }) (filter_all (λ l. not (l.pid == pid)) rows.lwps (All-imply _ _ (λ l e. ap not e) rows.lwps (every_untested (λ l. l.pid == pid) rows.lwps none)))

-- What is kept of an LWP whose wait is over

pub released-tid : (over : ℕ → Bool) (r : ProcData) (l : LwpData) → (released over r l).tid ≡ l.tid
released-tid over r l = grind arith

pub released-pid : (over : ℕ → Bool) (r : ProcData) (l : LwpData) → (released over r l).pid ≡ l.pid
released-pid over r l = grind arith

pub ruleset removing = (found, removed_same, removed_less, removed_all)

-- to wait for one process
pub waits_for_one : (child : ℕ) (mode : Mode) → waits_for child mode ≡ waits_where (λ n. n == child) mode
waits_for_one child User = refl
waits_for_one child (InCall call) = refl
waits_for_one child (VforkWait n) = refl

-- an LWP that doesn't wait for the process stays as it is
pub released-others : (child : ℕ) (r : ProcData) (l : LwpData) → waits_for child l.mode ≡ false → released (λ n. n == child) r l ≡ l
released-others child r l calm = rw (sym (waits_for_one child l.mode) ∙ calm) refl
