-- One relation says all of isolation: what a step did to all rows, what the same step does to one
-- user's rows, and that other users' rows are as they were.
use Rattle.std.proofs.Common.{◌≡◌, ◌≢◌, ℕ, List, length, filter, find, filter_map, Bool, true, false, ◌==◌, Option, Some, None, IfSome, refl, sym, ap, ◌∙◌, arith, eqb, eqb-true, subst, eq-eqb, get_or, inl, inr, ◌⊎◌}
use Rattle.trace_rows.proofs.CommonNames.{AllByRecursion, nat_tests, IsUser, ProcData, LwpData, is_live, process_of, of_user, Rows, by_owner, each}
use Rattle.std.proofs.lemmas.Bool.{cases_eq}
use Rattle.pid_blocks.specs.Blocks.{pid_owner, slot}
use Rattle.trace_rows.specs.Closed.{GoodProc, GoodLwp, LiveRow, LiveOwner, Closed}
use Rattle.trace_rows.proofs.Every.{All-both, All-edit}
use Rattle.trace_rows.proofs.Edited.{If_more}
use Rattle.trace_rows.proofs.Passes.{filter_map_same}
use Rattle.trace_rows.proofs.FilteredLists.{find_only, find_some, filter_only, filter_edit, filter_untouched, find_edit, All-where, Rise-edit}

abbrev pub own : ℕ → ProcData → Bool
own u p = p.uid == u

abbrev pub own_lwp : ℕ → LwpData → Bool
own_lwp u l = pid_owner l.pid == u

-- c came from start by steps of u
pub record Kept (u : ℕ) (start c : Rows) : Type 0 where
  pub closed : Closed u c
  pub processes : (w : ℕ) → w ≢ u → of_user w c.processes ≡ of_user w start.processes
  pub lwps : (w : ℕ) → w ≢ u → filter (own_lwp w) c.lwps ≡ filter (own_lwp w) start.lwps
  pub pid_cursor : (w : ℕ) → IsUser w → w ≢ u → get_or c.pid_cursors (slot w) 0 ≡ get_or start.pid_cursors (slot w) 0
  pub tid_cursor : (w : ℕ) → IsUser w → w ≢ u → get_or c.tid_cursors (slot w) 0 ≡ get_or start.tid_cursors (slot w) 0

-- and v is what u sees of it
pub record Sim (u : ℕ) (start c v : Rows) : Type 0 where
  pub kept : Kept u start c
  pub processes : of_user u c.processes ≡ v.processes
  pub lwps : filter (own_lwp u) c.lwps ≡ v.lwps
  pub pid_cursor : get_or c.pid_cursors (slot u) 0 ≡ get_or v.pid_cursors (slot u) 0
  pub tid_cursor : get_or c.tid_cursors (slot u) 0 ≡ get_or v.tid_cursors (slot u) 0
  pub pid_slots : length v.pid_cursors ≡ 64
  pub tid_slots : length v.tid_cursors ≡ 64

pub is_own : (u n : ℕ) → n ≡ u → eqb n u ≡ true
is_own u n is = eq-eqb n u is

pub not_own : (u n : ℕ) → n ≢ u → eqb n u ≡ false
not_own u n ne = grind (arith, nat_tests)

pub either : (n m : ℕ) {R : Type 0} → (n ≡ m → R) → (n ≢ m → R) → R
either n m is ne = elim (cases_eq n m) [ inl e ↦ is e | inr e ↦ ne e ]

-- Queries

module _ {u : ℕ} {start c v : Rows} (s : Sim u start c v) where
  module _ (q : ProcData → Bool) (mine : (p : ProcData) → GoodProc p → q p ≡ true → p.uid ≡ u) where
    pub row_query : find q c.processes ≡ find q v.processes
    row_query = sym (find_only q (own u) GoodProc (λ p good is. is_own u p.uid (mine p good is)) c.processes s.kept.closed.processes) ∙ ap (find q) s.processes

    pub rows_query : filter q c.processes ≡ filter q v.processes
    rows_query = sym (filter_only q (own u) GoodProc (λ p good is. is_own u p.uid (mine p good is)) c.processes s.kept.closed.processes) ∙ ap (filter q) s.processes

  module _ (q : LwpData → Bool) (mine : (l : LwpData) → GoodLwp l → q l ≡ true → pid_owner l.pid ≡ u) where
    pub lwp_query : find q c.lwps ≡ find q v.lwps
    lwp_query = sym (find_only q (own_lwp u) GoodLwp (λ l well is. is_own u (pid_owner l.pid) (mine l well is)) c.lwps s.kept.closed.lwps) ∙ ap (find q) s.lwps

    pub lwps_query : filter q c.lwps ≡ filter q v.lwps
    lwps_query = sym (filter_only q (own_lwp u) GoodLwp (λ l well is. is_own u (pid_owner l.pid) (mine l well is)) c.lwps s.kept.closed.lwps) ∙ ap (filter q) s.lwps

-- a process with a number of u is a row of u
pub named : {u n : ℕ} → pid_owner n ≡ u → (p : ProcData) → GoodProc p → p.pid ≡ n → p.uid ≡ u
named mine p good e = sym good.block ∙ ap pid_owner e ∙ mine

pub process_same : {u : ℕ} {start c v : Rows} → Sim u start c v → (n : ℕ) → pid_owner n ≡ u → process_of n c.processes ≡ process_of n v.processes
process_same s n mine = row_query s (λ p. p.pid == n) (λ p good is. named mine p good (eqb-true p.pid n is))

-- the row of a number, if there is one
pub at_number : (ps : List ProcData) → AllByRecursion GoodProc ps → (n : ℕ) (R : Option ProcData → Type 0) → R None → ((p : ProcData) → process_of n ps ≡ Some p → GoodProc p → p.pid ≡ n → R (Some p)) → R (process_of n ps)
at_number ps all n R none some = grind (arith, nat_tests, find_some (λ p. p.pid == n) GoodProc ps all, none, some)

-- Each row on its own

abbrev pub SameOwnership : ProcData → Option ProcData → Type 0
SameOwnership p o = IfSome o (λ q. (q.pid ≡ p.pid) × (q.uid ≡ p.uid) × GoodProc q)

abbrev pub SameOwnershipLwp : LwpData → Option LwpData → Type 0
SameOwnershipLwp l o = IfSome o (λ k. (k.pid ≡ l.pid) × GoodLwp k)

pub record Keeps (u : ℕ) (f : ProcData → Option ProcData) (g : ProcData → LwpData → Option LwpData) : Type 0 where
  pub mine : (p : ProcData) → GoodProc p → p.uid ≡ u → SameOwnership p (f p)
  pub foreign : (p : ProcData) → GoodProc p → p.uid ≢ u → f p ≡ Some p
  pub lwp : (p : ProcData) (l : LwpData) → GoodProc p → GoodLwp l → p.uid ≡ u → p.pid ≡ l.pid → SameOwnershipLwp l (g p l)
  pub foreign_lwp : (p : ProcData) (l : LwpData) → GoodProc p → GoodLwp l → p.uid ≢ u → p.pid ≡ l.pid → g p l ≡ Some l
  pub live : (p : ProcData) (l : LwpData) → GoodProc p → p.uid ≡ u → is_live p ≡ true → LiveRow (f p) ⊎ (g p l ≡ None)

module _ {u : ℕ} {start c v : Rows} (s : Sim u start c v) (f : ProcData → Option ProcData) (g : ProcData → LwpData → Option LwpData) (k : Keeps u f g) where
  all : AllByRecursion GoodProc c.processes
  all = s.kept.closed.processes

  abbrev after : List ProcData
  after = filter_map f c.processes

  -- a process, afterwards
  kin : (p : ProcData) → GoodProc p → SameOwnership p (f p)
  kin p good = either p.uid u (k.mine p good) (λ ne. grind (arith, k.foreign p good ne, good))

  live_after : (n : ℕ) (p : ProcData) → process_of n c.processes ≡ Some p → LiveRow (f p) → LiveRow (process_of n after)
  live_after n p is live = grind (arith, find_edit (λ q. q.pid == n) f GoodProc (λ q good. grind (arith, kin q good)) c.processes all p, is, live)

  -- an LWP, with what its process becomes
  abbrev to : LwpData → Option LwpData
  to l = by_owner g l (process_of l.pid c.processes)

  kin_lwp : (p : ProcData) (l : LwpData) → GoodProc p → GoodLwp l → p.pid ≡ l.pid → SameOwnershipLwp l (g p l)
  kin_lwp p l good well here = either p.uid u (λ is. k.lwp p l good well is here) (λ ne. grind (arith, k.foreign_lwp p l good well ne here, well))

  kin_to : (l : LwpData) → GoodLwp l → SameOwnershipLwp l (to l)
  kin_to l well = at_number c.processes all l.pid (λ o. SameOwnershipLwp l (by_owner g l o)) (refl, well) (λ p is good here. kin_lwp p l good well here)

  foreign_to : (l : LwpData) → GoodLwp l → pid_owner l.pid ≢ u → to l ≡ Some l
  foreign_to l well ne = at_number c.processes all l.pid (λ o. by_owner g l o ≡ Some l) refl (λ p is good here. k.foreign_lwp p l good well (λ e. ne (sym (ap pid_owner here) ∙ good.block ∙ e)) here)

  still : (p : ProcData) (l : LwpData) → process_of l.pid c.processes ≡ Some p → GoodProc p → GoodLwp l → p.pid ≡ l.pid → LiveRow (f p) → IfSome (g p l) (LiveOwner after)
  still p l is good well here live = If_more _ (LiveOwner after) (λ m j. rw j.0 (live_after l.pid p is live)) (g p l) (kin_lwp p l good well here)

  live_to : (l : LwpData) → GoodLwp l × LiveOwner c.processes l → IfSome (to l) (LiveOwner after)
  live_to l h = at_number c.processes all l.pid (λ o. LiveRow o → IfSome (by_owner g l o) (LiveOwner after)) (λ no_row. absurd no_row) (λ p is good here live. either p.uid u
      (λ mine. grind (arith, k.live p l good mine live, still p l is good h.0 here))
      (λ ne. still p l is good h.0 here (subst LiveRow (sym (k.foreign p good ne)) live))) h.1

  pub each_same : Sim u start (each f g c) (each f g v)
  each_same =
      let closed = s.kept.closed in
      let processes = All-edit f GoodProc GoodProc (λ p good. grind (arith, kin p good)) c.processes all in
      let lwps = All-edit to GoodLwp GoodLwp (λ l well. grind (arith, kin_to l well)) c.lwps closed.lwps in
      let owners = All-edit to (λ l. GoodLwp l × LiveOwner c.processes l) (LiveOwner after) live_to c.lwps (All-both GoodLwp (LiveOwner c.processes) c.lwps closed.lwps closed.in_owners_block) in
      let rising = Rise-edit f GoodProc (λ p good. grind (arith, kin p good)) c.processes all closed.rising in
      let other_processes : (w : ℕ) → w ≢ u → of_user w after ≡ of_user w start.processes = λ w ne.
      filter_untouched (own w) f GoodProc (λ p good is. k.foreign p good (λ e. ne (sym (eqb-true p.uid w is) ∙ e)))
      (λ p good is. grind (arith, nat_tests, kin p good, is)) c.processes all ∙ s.kept.processes w ne in
      let other_lwps : (w : ℕ) → w ≢ u → filter (own_lwp w) (filter_map to c.lwps) ≡ filter (own_lwp w) start.lwps = λ w ne.
      filter_untouched (own_lwp w) to GoodLwp (λ l well is. foreign_to l well (λ e. ne (sym (eqb-true (pid_owner l.pid) w is) ∙ e)))
      (λ l well is. grind (arith, nat_tests, kin_to l well, is)) c.lwps closed.lwps ∙ s.kept.lwps w ne in
      let own_processes = filter_edit (own u) f GoodProc (λ p good. grind (arith, nat_tests, kin p good)) c.processes all ∙ ap (filter_map f) s.processes in
      let own_lwps = filter_edit (own_lwp u) to GoodLwp (λ l well. grind (arith, nat_tests, kin_to l well)) c.lwps closed.lwps
      ∙ filter_map_same to _ (filter (own_lwp u) c.lwps) (All-where (own_lwp u) GoodLwp (λ l. to l ≡ by_owner g l (process_of l.pid v.processes)) (λ l well is. ap (by_owner g l) (process_same s l.pid (eqb-true (pid_owner l.pid) u is))) c.lwps closed.lwps)
      ∙ ap (filter_map (λ l. by_owner g l (process_of l.pid v.processes))) s.lwps in
      assumption
