-- Changes of a process, of an LWP, and of a process with its LWPs, as edits of single rows.
use Rattle.proc_table.proofs.CommonNames.{◌≡◌, ℕ, false, List, [], ◌∷◌, map, refl, ap, ◌∙◌, arith, cond, nat_eq, is_some, Option, Some, None, rules, filter_map, nat_tests, LwpData, Differ, lwp_of}
use Rattle.proc_table.proofs.CommonNames.{with_lwp, without_lwp, ProcData, process_of, Rows, change, change_process, change_lwp, remove_lwp, by_owner, is_numbered, own_lwp, map_lwps, Rise}
use Rattle.proc_table.proofs.CommonNames.{put_process, set_process, set_lwp, drop_lwp, any-found, lacks-any, map-changed, map-lacks}
use Rattle.std.proofs.Math.Path.{fun_ext}
use Rattle.proc_table.proofs.Every.{every_found, every_untested}
use Rattle.proc_table.proofs.Rising.{once}
use Rattle.proc_table.proofs.Rows.{process_of-pid}

pub map-id : {X : Type 0} (xs : List X) → map (λ x. x) xs ≡ xs
map-id [] = refl
map-id (x ∷ xs) = ap (λ ys. x ∷ ys) (map-id xs)

pub filter_map-map : {X Y : Type 0} (f : X → Option Y) (g : X → Y) → ((x : X) → f x ≡ Some (g x)) → (xs : List X) → filter_map f xs ≡ map g xs
filter_map-map f g same [] = refl
filter_map-map f g same (x ∷ xs) = rw (same x, filter_map-map f g same xs) refl

-- a process changed by its number, as the edit of its row
module _ (pid : ℕ) (f : ProcData → ProcData) where
  abbrev pub changed : ProcData → ProcData
  changed q = cond (nat_eq q.pid pid) (f q) q

  pub changed-at : (p : ProcData) (ps : List ProcData) → Rise ps → process_of pid ps ≡ Some p → (f p).pid ≡ pid → map changed ps ≡ map (put_process (f p)) ps
  changed-at p ps r found its = map-changed (λ (q : ProcData). q.pid) pid f p ps (once ps r) found its

-- and an LWP
module _ (tid : ℕ) (f : LwpData → LwpData) where
  abbrev pub changed_lwp : LwpData → LwpData
  changed_lwp l = cond (nat_eq l.tid tid) (f l) l

  pub changed_lwp-at : (k : LwpData) (ls : List LwpData) → Differ ls → lwp_of tid ls ≡ Some k → (f k).tid ≡ tid → map changed_lwp ls ≡ with_lwp (f k) ls
  changed_lwp-at k ls d found its = map-changed (λ (l : LwpData). l.tid) tid f k ls d found its

pub change_process-at : (pid : ℕ) (f : ProcData → ProcData) (rows : Rows) (p : ProcData) → Rise rows.processes → process_of pid rows.processes ≡ Some p → (f p).pid ≡ pid
    → change_process pid f rows ≡ set_process (f p) rows
change_process-at pid f rows p r found its = ap (λ ps. record rows { processes = ps }) (changed-at pid f p rows.processes r found its)

pub change_lwp-at : (tid : ℕ) (f : LwpData → LwpData) (rows : Rows) (k : LwpData) → Differ rows.lwps → lwp_of tid rows.lwps ≡ Some k → (f k).tid ≡ tid
    → change_lwp tid f rows ≡ set_lwp (f k) rows
change_lwp-at tid f rows k d found its = ap (λ ls. record rows { lwps = ls }) (changed_lwp-at tid f k rows.lwps d found its)

-- a process and its LWPs changed, as an edit of its row and then of its LWPs
module _ (pid : ℕ) (f : ProcData → ProcData) (g : ProcData → LwpData → LwpData) where
  abbrev pub lwp_changed : ProcData → LwpData → Option LwpData
  lwp_changed p l = Some (cond (nat_eq p.pid pid) (g p l) l)

  by_found : (p : ProcData) (l : LwpData) (o : Option ProcData) (ps : List ProcData) → process_of pid ps ≡ Some p → process_of l.pid ps ≡ o
      → by_owner lwp_changed l o ≡ Some (own_lwp pid (g p) l)
  by_found p l o ps found at = grind (arith, nat_tests, process_of-pid)

  pub change-at : (rows : Rows) (p : ProcData) → Rise rows.processes → process_of pid rows.processes ≡ Some p → (f p).pid ≡ pid
      → change (is_numbered pid) f g rows ≡ map_lwps pid (g p) (set_process (f p) rows)
  change-at rows p r found its =
      ap (λ ps. record rows { processes = ps; lwps = filter_map (λ l. by_owner lwp_changed l (process_of l.pid rows.processes)) rows.lwps })
      (filter_map-map (λ q. Some (changed pid f q)) (changed pid f) (λ q. refl) rows.processes ∙ changed-at pid f p rows.processes r found its)
      ∙ ap (λ ls. record rows { processes = map (put_process (f p)) rows.processes; lwps = ls })
      (filter_map-map (λ l. by_owner lwp_changed l (process_of l.pid rows.processes)) (own_lwp pid (g p)) (λ l. by_found p l (process_of l.pid rows.processes) rows.processes found refl) rows.lwps)

-- a change of a process that isn't there
absent : (n : ℕ) (q : ProcData) (m : ℕ) (ps : List ProcData) → process_of n ps ≡ None → process_of m ps ≡ Some q → nat_eq q.pid n ≡ false
absent n q m ps none found = every_found (λ p. nat_eq p.pid n ≡ false) (λ p. nat_eq p.pid m) ps q (every_untested (λ p. nat_eq p.pid n) ps none) found

module _ (n : ℕ) (f : ProcData → ProcData) (g : ProcData → LwpData → LwpData) where
  none-changed : (ps : List ProcData) → process_of n ps ≡ None → map (changed n f) ps ≡ ps
  none-changed ps none = map-lacks (λ (p : ProcData). p.pid) f n ps (lacks-any (λ (p : ProcData). p.pid) n ps (any-found (λ p. nat_eq p.pid n) ps ∙ ap is_some none))

  none-own : (l : LwpData) (o : Option ProcData) (ps : List ProcData) → process_of n ps ≡ None → process_of l.pid ps ≡ o → by_owner (lwp_changed n f g) l o ≡ Some l
  none-own l o ps none at = grind (arith, nat_tests, absent)

  pub change-none : (rows : Rows) → process_of n rows.processes ≡ None → change (is_numbered n) f g rows ≡ rows
  change-none rows none =
      ap (λ ps. record rows { processes = ps; lwps = filter_map (λ l. by_owner (lwp_changed n f g) l (process_of l.pid rows.processes)) rows.lwps })
      (filter_map-map (λ q. Some (changed n f q)) (changed n f) (λ q. refl) rows.processes ∙ none-changed rows.processes none)
      ∙ ap (λ ls. record rows { lwps = ls })
      (filter_map-map (λ l. by_owner (lwp_changed n f g) l (process_of l.pid rows.processes)) (λ l. l) (λ l. none-own l (process_of l.pid rows.processes) rows.processes none refl) rows.lwps ∙ map-id rows.lwps)

-- the LWPs of a process left as they are
pub map_lwps-none : (pid : ℕ) (rows : Rows) → map_lwps pid (λ l. l) rows ≡ rows
map_lwps-none pid rows = ap (λ ls. record rows { lwps = ls }) (unchanged rows.lwps)
  where
    unchanged : (ls : List LwpData) → map (own_lwp pid (λ l. l)) ls ≡ ls
    unchanged [] = refl
    unchanged (l ∷ ls) = grind (arith, nat_tests, unchanged ls)

-- an LWP taken out
pub remove_lwp-is : (tid : ℕ) (rows : Rows) → remove_lwp tid rows ≡ drop_lwp tid rows
remove_lwp-is tid rows = ap (λ ls. record rows { lwps = ls }) (gone rows.lwps)
  where
    gone : (ls : List LwpData) → filter_map (λ l. cond (nat_eq l.tid tid) None (Some l)) ls ≡ without_lwp tid ls
    gone [] = refl
    gone (l ∷ ls) = grind (arith, nat_tests, gone ls)

-- the row of a process edited, and then its LWPs
pub change-done : (pid : ℕ) (f : ProcData → ProcData) (g : ProcData → LwpData → LwpData) (h : LwpData → LwpData) (p q : ProcData) (rows rows1 rows2 : Rows)
    → Rise rows.processes → process_of pid rows.processes ≡ Some p → (f p).pid ≡ pid → q ≡ f p → rows1 ≡ set_process q rows → ((l : LwpData) → h l ≡ g p l) → rows2 ≡ map_lwps pid h rows1
    → rows2 ≡ change (is_numbered pid) f g rows
change-done pid f g h p q rows rows1 rows2 up at its row put same done = search (rules, fun_ext, change-at)
