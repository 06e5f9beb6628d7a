-- The changes that make an exec.
use Rattle.requests.proofs.CommonNames.{not-false, nat_tests, ◌≡◌, ◌≢◌, ℕ, ◌<◌, Bool, true, false, List, [], ◌∷◌, length, filter, find, map, filter_map, nat_eq, refl, sym, ap, ◌∙◌, arith, Option}
use Rattle.requests.proofs.CommonNames.{Some, None, eqb-true, rules, AllByRecursion, cases_Bool, after_exec, LwpData, User, LacksLwp, Differ, lwp_of, first_lwp, next_lwp, without_lwp, ProcData}
use Rattle.requests.proofs.CommonNames.{process_of, Rows, by_owner, each, change_process, InOwnersBlock, drop_lwp, same_number, other_number, process_of-pid, changed_lwp, map-id, filter_map-map}
use Rattle.requests.proofs.CommonNames.{every_untested, found_tested, released, IsLiveChild, Standing, WithOwner, IsSound, All-imply, All-both, any_holds, find_some, the_row, the_lwp, own_lwps}
use Rattle.requests.proofs.CommonNames.{IsActing, HasLwp, settle, in_mode, exec_rows, not, ◌==◌, if◌then◌else◌}
use Rattle.proc_table.specs.Edits.{own_lwp}
use Rattle.trace_rows.proofs.Children.{child_test, child_from}
use Rattle.trace_stop.proofs.LwpEdits.{filter_within, filter_all, released-tid, released-pid}
use Rattle.requests.proofs.HasLwpAfterChange.{has-process_changed, has-lwps_mapped}
use Rattle.requests.specs.Programs.{is_other, only_lwp, parent_freed}
use Rattle.std.proofs.lemmas.List.Sums.{length-filter, count_by-le-length}

-- An LWP of the process with another number

module _ (pid tid : ℕ) where
  pub other_none : (ls : List LwpData) → first_lwp pid ls ≡ None → find (is_other pid tid) ls ≡ None
  other_none [] none = refl
  other_none (l ∷ ls) none = grind (arith, nat_tests, other_none ls, none)

  pub other_first : (f : LwpData) (ls : List LwpData) → first_lwp pid ls ≡ Some f → nat_eq f.tid tid ≡ false → find (is_other pid tid) ls ≡ Some f
  other_first f [] first apart = absurd (cc)
  other_first f (l ∷ ls) first apart = grind (arith, nat_tests, other_first f ls, first, apart)

  other_rest : (ls : List LwpData) → LacksLwp tid ls → find (is_other pid tid) ls ≡ first_lwp pid ls
  other_rest [] lacks = refl
  other_rest (l ∷ ls) lacks = search (rules, other_rest ls lacks.1, cases_Bool, other_number)

  first_lacks : (f : LwpData) (ls : List LwpData) → first_lwp pid ls ≡ Some f → LacksLwp f.tid ls → ⊥
  first_lacks f [] first lacks = cc
  first_lacks f (l ∷ ls) first lacks = grind (arith, nat_tests, first_lacks f ls, first, lacks)

  pub other_next : (f : LwpData) (ls : List LwpData) → Differ ls → first_lwp pid ls ≡ Some f → f.tid ≡ tid → find (is_other pid tid) ls ≡ next_lwp pid tid ls
  other_next f [] d first same = absurd (cc)
  other_next f (l ∷ ls) d first same = grind (arith, nat_tests, other_next f ls d.1, other_rest ls, first_lacks f ls, same_number, first, same, d)

-- One LWP less

pub less_without : (n : ℕ) (l : LwpData) (ls : List LwpData) → lwp_of n ls ≡ Some l → length (without_lwp n ls) < length ls
less_without n l [] at = absurd (cc)
less_without n l (k ∷ ls) at = grind (arith, nat_tests, less_without n l ls, count_by-le-length, length-filter, at)

lwp_without : (n t : ℕ) → n ≢ t → (ls : List LwpData) → lwp_of n (without_lwp t ls) ≡ lwp_of n ls
lwp_without n t apart [] = refl
lwp_without n t apart (l ∷ ls) = search (rules, lwp_without n t apart ls, cases_Bool, other_number, eqb-true)

module _ (pid tid : ℕ) (x : LwpData) (rows : Rows) (d : Differ rows.lwps) (is : find (is_other pid tid) rows.lwps ≡ Some x) where
  pub other_there : lwp_of x.tid rows.lwps ≡ Some x
  other_there = (find_some (is_other pid tid) (λ k. lwp_of k.tid rows.lwps ≡ Some k) rows.lwps (own_lwps rows.lwps d) x is).0

  pub other_dropped : only_lwp pid tid (drop_lwp x.tid rows) ≡ only_lwp pid tid rows
  other_dropped = ap (λ ls. record rows { lwps = ls }) (filter_within (λ k. not (is_other pid tid k)) (λ k. not (nat_eq k.tid x.tid)) rows.lwps
      (All-imply (λ k. k.tid ≡ x.tid → k ≡ x) (λ k. not (nat_eq k.tid x.tid) ≡ false → not (is_other pid tid k) ≡ false)
      (λ k same off. ap not (ap (is_other pid tid) (same (eqb-true k.tid x.tid (not-false _ off))) ∙ (found_tested (is_other pid tid) rows.lwps x is))) rows.lwps (the_lwp x.tid rows.lwps x d other_there)))

  pub other_left : HasLwp pid tid rows → HasLwp pid tid (drop_lwp x.tid rows)
  other_left h = search (rules, lwp_without, (found_tested (is_other pid tid) rows.lwps x is), same_number)

pub others_none : (pid tid : ℕ) (rows : Rows) → find (is_other pid tid) rows.lwps ≡ None → rows ≡ only_lwp pid tid rows
others_none pid tid rows none = grind (arith, nat_tests, filter_all (λ k. not (is_other pid tid k)) rows.lwps (All-imply (λ k. is_other pid tid k ≡ false) (λ k. not (is_other pid tid k) ≡ true) (λ k off. ap not off) rows.lwps (every_untested (is_other pid tid) rows.lwps none)))

-- An exec is these changes, one after another

walked : {X : Type 0} (to : X → Option X) (f g : X → X) (t : X → Bool) (xs : List X) → AllByRecursion (λ x. to x ≡ (if t (f x) then Some (g (f x)) else None)) xs → filter_map to xs ≡ map g (filter t (map f xs))
walked to f g t [] all = refl
walked to f g t (x ∷ xs) all = grind (arith, nat_tests, cases_Bool, walked to f g t xs all.1)

abbrev freed_lwp : Option ProcData → ℕ → LwpData → LwpData
freed_lwp None child l = l
freed_lwp (Some parent) child l = own_lwp parent.pid (released (λ n. n == child) parent) l

freed_rows : (o : Option ProcData) (child : ℕ) (rows : Rows) → parent_freed o child rows ≡ record rows { lwps = map (freed_lwp o child) rows.lwps }
freed_rows None child rows = ap (λ ls. record rows { lwps = ls }) (sym (map-id rows.lwps))
freed_rows (Some parent) child rows = refl

module _ (p : ProcData) (l : LwpData) (rows : Rows) (s : IsSound rows) (a : IsActing p l rows) where
  -- an LWP that waits for the process is its parent's
  its_child : (q : ProcData) → IsLiveChild rows q p.pid → p.parent ≡ q.pid
  its_child q live = any_holds (child_test q p.pid) (λ r. r.pid ≡ p.pid → r ≡ p) (p.parent ≡ q.pid)
      (λ r one is. let c = child_from q p.pid r is in ap (λ x. x.parent) (sym (one c.pid)) ∙ c.parent) rows.processes (the_row p.pid rows.processes p s.stands.rising a.process) live

  freed_own : (o : Option ProcData) → process_of p.parent rows.processes ≡ o → (k : LwpData) (q : ProcData) → process_of k.pid rows.processes ≡ Some q → Standing rows q k → freed_lwp o p.pid k ≡ released (λ n. n == p.pid) q k
  freed_own o at k q home stood = grind (arith, nat_tests, cases_Bool, its_child, process_of-pid, same_number, eqb-true)

  abbrev to_user : LwpData → LwpData
  to_user k = changed_lwp l.tid (λ j. record j { mode = User }) k

  abbrev exec_lwp : ProcData → LwpData → Option LwpData
  exec_lwp q k = if q.pid == p.pid then (if k.tid == l.tid then Some (record k { mode = User }) else None) else Some (released (λ n. n == p.pid) q k)

  abbrev Known : LwpData → Type 0
  Known k = InOwnersBlock rows k × (WithOwner rows (Standing rows) k × (k.tid ≡ l.tid → k ≡ l))

  knowns : AllByRecursion Known rows.lwps
  knowns = All-both (InOwnersBlock rows) (λ k. WithOwner rows (Standing rows) k × (k.tid ≡ l.tid → k ≡ l)) rows.lwps s.stands.in_owners_block
      (All-both (WithOwner rows (Standing rows)) (λ k. k.tid ≡ l.tid → k ≡ l) rows.lwps s.stands.standing (the_lwp l.tid rows.lwps l s.stands.differ a.lwp))

  exec_one : (o : Option ProcData) → process_of p.parent rows.processes ≡ o → (k : LwpData) → Known k
      → by_owner exec_lwp k (process_of k.pid rows.processes) ≡ (if not (is_other p.pid l.tid (to_user k)) then Some (freed_lwp o p.pid (to_user k)) else None)
  exec_one o at k known = grind (arith, nat_tests, process_of-pid, cases_Bool, eqb-true, same_number, freed_own)

  exec_rows_of : (o : Option ProcData) → process_of p.parent rows.processes ≡ o
      → change_process p.pid (λ q. record q { dispositions = after_exec q.dispositions }) (parent_freed o p.pid (only_lwp p.pid l.tid (in_mode User l.tid rows)))
      ≡ each (λ q. Some (if q.pid == p.pid then record q { dispositions = after_exec q.dispositions } else q)) exec_lwp rows
  exec_rows_of o at =
      ap (change_process p.pid (λ q. record q { dispositions = after_exec q.dispositions })) (freed_rows o p.pid (only_lwp p.pid l.tid (in_mode User l.tid rows)))
      ∙ ap (λ ls. record rows { processes = filter_map (λ q. Some (if q.pid == p.pid then record q { dispositions = after_exec q.dispositions } else q)) rows.processes; lwps = ls })
      (ap (λ ls. map (freed_lwp o p.pid) (filter (λ k. not (is_other p.pid l.tid k)) ls)) (filter_map-map (λ k. Some (to_user k)) to_user (λ k. refl) rows.lwps)
      ∙ sym (walked (λ k. by_owner exec_lwp k (process_of k.pid rows.processes)) to_user (freed_lwp o p.pid) (λ k. not (is_other p.pid l.tid k)) rows.lwps (All-imply Known _ (exec_one o at) rows.lwps knowns)))

  -- the rows after the changes
  pub exec_done : (moved kept freed rows' done : Rows) → moved ≡ in_mode User l.tid rows → kept ≡ only_lwp p.pid l.tid moved → freed ≡ parent_freed (process_of p.parent kept.processes) p.pid kept
      → rows' ≡ change_process p.pid (λ q. record q { dispositions = after_exec q.dispositions }) freed → done ≡ settle p.pid rows' → done ≡ exec_rows p l rows
  exec_done moved kept freed rows' done move keep free drop settled = search (rules, exec_rows_of)

-- after the process has dropped its handlers, it and its LWP are there
pub has-dropped : (o : Option ProcData) (pid tid : ℕ) (kept freed dropped : Rows) → HasLwp pid tid kept → freed ≡ parent_freed o pid kept
    → dropped ≡ change_process pid (λ q. record q { dispositions = after_exec q.dispositions }) freed → HasLwp pid tid dropped
has-dropped o pid tid kept freed dropped h free drop = grind (arith, nat_tests, has-process_changed, has-lwps_mapped, released-tid, released-pid)
