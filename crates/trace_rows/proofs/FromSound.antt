-- The test of soundness, and soundness as facts: each gives the other.
use Rattle.trace_rows.proofs.CommonNames.{nat_tests, AllByRecursion, list_any, list_all, le-leb, leb-true, IsUser, pid_block, tid_block, in_block, InBlock, slot, users, rising, LwpData, Mode, Differ, ProcData, is_live}
use Rattle.trace_rows.proofs.CommonNames.{reporting, Rows, process_count, lwp_count_of, lwp_count, Rise, InOwnBlock, InOwnersBlock, pairwise, implies, holds, of_owner}
use Rattle.trace_rows.proofs.CommonNames.{sound_numbers, sound_limits, sound_link, sound_state, names_own, is_state, is_live_child, sound_lwp, sound_rows, IsLiveChild, Linked, State, IfEnded, FitProcess, waited_for, Standing, FitLwp, IsSound, ◌≡◌, ℕ, zero, suc, ◌+◌}
use Rattle.trace_rows.proofs.CommonNames.{◌<◌, ◌≤◌, List, [], ◌∷◌, length, map, Bool, true, ◌==◌, ◌&&◌, not, Option, None, is_none, IfSome, refl, arith, eqb-true, eq-eqb, rules}
use Rattle.std.proofs.Common.{zip, leb, ltb, get_or}
use Rattle.std.specs.Bool.{Decides}
use Rattle.pid_blocks.specs.declared.Block.{Block}
use Rattle.proc_table.proofs.Changes.{map-id}
use Rattle.trace_rows.proofs.Every.{implies_at, implies_from, not_true, All-from_list_all, list_all-from_All}
use Rattle.trace_rows.proofs.CommonLemmas.{and_left, and_right, both, All-imply, All-both}

-- users, and lists of one element for each user

any_rising : (count n k : ℕ) → Decides (list_any (λ m. m == k) (rising count n)) ((n ≤ k) × (k < n + count))
any_rising zero n k = (λ is. absurd (cc), λ h. absurd (omega (arith, h)))
any_rising (suc count) n k = grind (arith, nat_tests, any_rising count (n + 1) k)

user_tells : (u : ℕ) → Decides (list_any (λ w. w == u) users) (IsUser u)
user_tells u = let r = any_rising 64 1001 u in (λ is. let h = r.0 is in omega (arith, h), λ user. r.1 (omega (arith, user)))

all_rising : (q : ℕ → Bool) (count n : ℕ) → Decides (list_all q (rising count n)) ((k : ℕ) → n ≤ k → k < n + count → q k ≡ true)
all_rising q zero n = (λ all k from to. absurd (omega arith), λ h. refl)
all_rising q (suc count) n = grind (arith, nat_tests, all_rising q count (n + 1))

users_tell : (q : ℕ → Bool) → Decides (list_all q users) ((u : ℕ) → IsUser u → q u ≡ true)
users_tell q = let r = all_rising q 64 1001 in (λ all u user. r.0 all u (omega (arith, user)) (omega (arith, user)), λ h. r.1 (λ k from to. h k (omega arith)))

zip_at : {X : Type 0} (q : ℕ × X → Bool) (count n : ℕ) (xs : List X) (d : X) → length xs ≡ count → list_all q (zip (rising count n) xs) ≡ true → (k : ℕ) → k < count → q (n + k, get_or xs k d) ≡ true
zip_at q zero n xs d is all k lt = absurd (omega arith)
zip_at q (suc count) n [] d is all k lt = absurd (omega (arith, is))
zip_at q (suc count) n (x ∷ xs) d is all zero lt = grind (arith, all)
zip_at q (suc count) n (x ∷ xs) d is all (suc k) lt = grind (arith, all, is, zip_at q count (n + 1) xs d, lt)

zip_from : {X : Type 0} (q : ℕ × X → Bool) (count n : ℕ) (xs : List X) (d : X) → ((k : ℕ) → k < count → q (n + k, get_or xs k d) ≡ true) → list_all q (zip (rising count n) xs) ≡ true
zip_from q zero n xs d h = refl
zip_from q (suc count) n [] d h = refl
zip_from q (suc count) n (x ∷ xs) d h = grind (arith, h zero, zip_from q count (n + 1) xs d (λ k lt. grind (arith, h (suc k), lt)))

pub user_at : {X : Type 0} (q : ℕ × X → Bool) (xs : List X) (d : X) → length xs ≡ 64 → list_all q (zip users xs) ≡ true → (u : ℕ) → IsUser u → q (u, get_or xs (slot u) d) ≡ true
user_at q xs d is all u user = let number : 1001 + slot u ≡ u = omega (arith, user) in rw number at (zip_at q 64 1001 xs d is all (slot u) (omega (arith, user)))

pub zip_users : {X : Type 0} (q : ℕ × X → Bool) (xs : List X) (d : X) → ((u : ℕ) → IsUser u → q (u, get_or xs (slot u) d) ≡ true) → list_all q (zip users xs) ≡ true
zip_users q xs d h = zip_from q 64 1001 xs d (λ k lt. let place : slot (1001 + k) ≡ k = omega arith in rw place at (h (1001 + k) (omega arith)))

-- blocks, and rising and different numbers

block_tells : (b : Block) (n : ℕ) → Decides (in_block b n) (InBlock b n)
block_tells b n = grind (arith, nat_tests)

mapped_tells : {X Y : Type 0} (f : X → Y) (q : Y → Bool) (P : X → Type 0) → ((x : X) → Decides (q (f x)) (P x)) → (xs : List X) → Decides (list_all q (map f xs)) (AllByRecursion P xs)
mapped_tells f q P h [] = (λ is. tt, λ h. refl)
mapped_tells f q P h (x ∷ xs) = grind (arith, h x, mapped_tells f q P h xs)

every_tells : {X : Type 0} (q : X → Bool) (P : X → Type 0) → ((x : X) → Decides (q x) (P x)) → (xs : List X) → Decides (list_all q xs) (AllByRecursion P xs)
every_tells q P h xs = rw map-id at (mapped_tells (λ x. x) q P h xs)

rises_tells : (ps : List ProcData) → Decides (pairwise ltb (map (λ p. p.pid) ps)) (Rise ps)
rises_tells [] = (λ is. tt, λ h. refl)
rises_tells (p ∷ ps) = grind (arith, mapped_tells (λ (q : ProcData). q.pid) (ltb p.pid) (λ q. p.pid < q.pid) (λ q. grind (arith, nat_tests)) ps, rises_tells ps)

differ_tells : (ls : List LwpData) → Decides (pairwise (λ m n. not (n == m)) (map (λ l. l.tid) ls)) (Differ ls)
differ_tells [] = (λ is. tt, λ h. refl)
differ_tells (l ∷ ls) = grind (arith, mapped_tells (λ (k : LwpData). k.tid) (λ n. not (n == l.tid)) (λ k. k.tid ≡ l.tid → ⊥) (λ k. grind (arith, nat_tests)) ls, differ_tells ls)

-- a process on its own, an LWP's process, and what rows say of them

home_tells : (p : ProcData) → Decides (list_any (λ u. u == p.uid) users && in_block (pid_block p.uid) p.pid) (InOwnBlock p)
home_tells p = (λ is. record { user = (user_tells p.uid).0 (and_left _ _ is); block = (block_tells (pid_block p.uid) p.pid).0 (and_right _ _ is) }, λ h. both _ _ ((user_tells p.uid).1 h.user) ((block_tells (pid_block p.uid) p.pid).1 h.block))

abbrev people_test : Rows → ProcData → Bool
people_test rows p = implies (is_live p) (leb 1 (lwp_count p.pid rows))

names_tell : (rows : Rows) (p : ProcData) → sound_state rows p ≡ true → IfSome (reporting p) (λ tid. names_own rows p tid ≡ true)
names_tell rows p is = grind (arith, nat_tests)

links_tell : (rows : Rows) (p : ProcData) → IfSome (reporting p) (λ tid. names_own rows p tid ≡ true) → Decides (sound_link rows p && people_test rows p) (Linked rows p)
links_tell rows p named = grind (arith, nat_tests, named)

none_tells : {X : Type 0} (o : Option X) → Decides (is_none o) (o ≡ None)
none_tells o = grind arith

ended_tells : (p : ProcData) (s : State) → Decides (is_state p s) (IfEnded p s)
ended_tells p s = grind (arith, nat_tests)

fit_from : (rows : Rows) (p : ProcData) → sound_state rows p ≡ true → FitProcess p
fit_from rows p is = search (rules, and_left, and_right, implies_at, none_tells, eqb-true, ended_tells)

fit_test : (rows : Rows) (p : ProcData) → IfSome (reporting p) (λ tid. names_own rows p tid ≡ true) → FitProcess p → sound_state rows p ≡ true
fit_test rows p named f = grind (arith, nat_tests)

waits_tell : (rows : Rows) (p : ProcData) (m : Mode) → Decides (holds (is_live_child rows p) (waited_for m)) (IfSome (waited_for m) (IsLiveChild rows p))
waits_tell rows p m = grind (arith, nat_tests)

standing_from : (rows : Rows) (p : ProcData) (l : LwpData) → is_live p ≡ true → sound_lwp rows p l ≡ true → Standing rows p l
standing_from rows p l live is = search (rules, leb-true, implies_at, and_right, and_left, waits_tell)

fit_lwp_from : (rows : Rows) (p : ProcData) (l : LwpData) → sound_lwp rows p l ≡ true → FitLwp p l
fit_lwp_from rows p l is = search (rules, implies_at, is_none, and_right, and_left, none_tells, not_true, eqb-true)

lwp_test : (rows : Rows) (p : ProcData) (l : LwpData) → Standing rows p l → FitLwp p l → sound_lwp rows p l ≡ true
lwp_test rows p l s f = search (rules, both, implies_from, is_none, none_tells, eq-eqb, not_true, le-leb, waits_tell)

-- all rows

module _ (rows : Rows) where
  housed_tells : (l : LwpData) → Decides (of_owner rows (λ p k. in_block (tid_block p.uid) k.tid) l) (InOwnersBlock rows l)
  housed_tells l = grind (arith, nat_tests)

  limits_tell : Decides (sound_limits rows) ((u : ℕ) → IsUser u → (process_count u rows ≤ 250) × (lwp_count_of u rows ≤ 1000))
  limits_tell = let r = users_tell (λ u. leb (process_count u rows) 250 && leb (lwp_count_of u rows) 1000) in (λ is u user. let h = r.0 is u user in grind (arith, nat_tests, h), λ h. r.1 (λ u user. grind (arith, nat_tests, h u user)))

  pub IsSound-from : sound_rows rows ≡ true → IsSound rows
  IsSound-from is =
      let ps : List ProcData = rows.processes in
      let numbers : sound_numbers rows ≡ true = search (and_left, and_right, is) in
      let limits : sound_limits rows ≡ true = search (and_left, and_right, is) in
      let pid_slots : length rows.pid_cursors ≡ 64 = eqb-true _ 64 (search (and_left, and_right, numbers) depth 9) in
      let tid_slots : length rows.tid_cursors ≡ 64 = eqb-true _ 64 (search (and_left, and_right, numbers) depth 9) in
      let tests : AllByRecursion (λ p. sound_state rows p ≡ true) ps = All-from_list_all _ ps (search (and_left, and_right, is)) in
      let links : AllByRecursion (λ p. sound_link rows p ≡ true) ps = All-from_list_all _ ps (search (and_left, and_right, is)) in
      let people : AllByRecursion (λ p. people_test rows p ≡ true) ps = All-from_list_all _ ps (search (and_left, and_right, is)) in
      let live : AllByRecursion (λ l. of_owner rows (λ p k. is_live p) l ≡ true) rows.lwps = All-from_list_all _ rows.lwps (search (and_left, and_right, is)) in
      let fits : AllByRecursion (λ l. of_owner rows (sound_lwp rows) l ≡ true) rows.lwps = All-from_list_all _ rows.lwps (search (and_left, and_right, is)) in
      record {
        stands = record {
          rising = (rises_tells ps).0 (search (and_left, and_right, numbers) depth 9);
          differ = (differ_tells rows.lwps).0 (search (and_left, and_right, numbers) depth 9);
          in_own_blocks = (every_tells _ _ home_tells ps).0 (search (and_left, and_right, numbers) depth 9);
          in_owners_block = (every_tells _ _ housed_tells rows.lwps).0 (search (and_left, and_right, numbers) depth 9);
          pid_slots = pid_slots;
          tid_slots = tid_slots;
          pid_cursors = λ u user. (block_tells (pid_block u) _).0 (user_at (λ c. in_block (pid_block c.0) c.1) rows.pid_cursors 0 pid_slots (search (and_left, and_right, numbers)) u user);
          tid_cursors = λ u user. (block_tells (tid_block u) _).0 (user_at (λ c. in_block (tid_block c.0) c.1) rows.tid_cursors 0 tid_slots (search (and_left, and_right, numbers)) u user);
          few_processes = λ u user. (limits_tell.0 limits u user).0;
          few_lwps = λ u user. (limits_tell.0 limits u user).1;
          linked = All-imply _ _ (λ p h. (links_tell rows p (names_tell rows p h.1.1)).0 (both _ _ h.0 h.1.0)) ps (All-both _ _ ps links (All-both _ _ ps people tests));
          standing = All-imply _ _ (λ l h p at. grind (arith, h, at, standing_from rows p l)) rows.lwps (All-both _ _ rows.lwps live fits);
        };
        processes = All-imply _ _ (fit_from rows) ps tests;
        lwps = All-imply _ _ (λ l h p at. grind (arith, h, at, fit_lwp_from rows p l)) rows.lwps fits;
      }

  pub sound_rows-from : IsSound rows → sound_rows rows ≡ true
  sound_rows-from s =
      let ps : List ProcData = rows.processes in
      let stands = s.stands in
      let rising = (rises_tells ps).1 stands.rising in
      let differ = (differ_tells rows.lwps).1 stands.differ in
      let in_own_blocks = (every_tells _ _ home_tells ps).1 stands.in_own_blocks in
      let in_owners_block = (every_tells _ _ housed_tells rows.lwps).1 stands.in_owners_block in
      let pid_slots = eq-eqb (length rows.pid_cursors) 64 stands.pid_slots in
      let tid_slots = eq-eqb (length rows.tid_cursors) 64 stands.tid_slots in
      let pid_cursors = zip_users (λ c. in_block (pid_block c.0) c.1) rows.pid_cursors 0 (λ u user. (block_tells (pid_block u) _).1 (stands.pid_cursors u user)) in
      let tid_cursors = zip_users (λ c. in_block (tid_block c.0) c.1) rows.tid_cursors 0 (λ u user. (block_tells (tid_block u) _).1 (stands.tid_cursors u user)) in
      let limits = limits_tell.1 (λ u user. (stands.few_processes u user, stands.few_lwps u user)) in
      let links = list_all-from_All (sound_link rows) ps (All-imply _ _ (λ p l. and_left _ _ ((links_tell rows p l.named).1 l)) ps stands.linked) in
      let people = list_all-from_All (people_test rows) ps (All-imply _ _ (λ p l. and_right (sound_link rows p) _ ((links_tell rows p l.named).1 l)) ps stands.linked) in
      let states = list_all-from_All (sound_state rows) ps (All-imply _ _ (λ p h. fit_test rows p h.0.named h.1) ps (All-both _ _ ps stands.linked s.processes)) in
      let homed = All-both _ _ rows.lwps stands.in_owners_block (All-both _ _ rows.lwps stands.standing s.lwps) in
      let live = list_all-from_All (of_owner rows (λ p l. is_live p)) rows.lwps (All-imply _ _ (λ l h. rw h.0.1 (h.1.0 h.0.0 h.0.1).live) rows.lwps homed) in
      let fits = list_all-from_All (of_owner rows (sound_lwp rows)) rows.lwps (All-imply _ _ (λ l h. rw h.0.1 (lwp_test rows h.0.0 l (h.1.0 h.0.0 h.0.1) (h.1.1 h.0.0 h.0.1))) rows.lwps homed) in
      search both depth 16
