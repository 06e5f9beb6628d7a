-- What edits of an LWP's row keep, and the rows of an unused host.
use Rattle.proc_table.proofs.CommonNames.{nat_tests, ◌≡◌, ℕ, true, false, [], ◌∷◌, ◌∙◌, arith, inl, inr, nat_eq, rules, IsSomeAnd, List, ◌++◌, length, get_or, AllByRecursion, length-set, cases_Bool}
use Rattle.proc_table.proofs.CommonNames.{IsUser, slot, pid_block, tid_block, InBlock, LwpData, lwp_of, put_lwp, with_lwp, Differ, owns, Rows, own_lwp, map_lwps, is_lwp, add_lwp, no_rows}
use Rattle.proc_table.proofs.CommonNames.{InOwnersBlock, TableInvariant, set_lwp, drop_lwp}
use Rattle.proc_table.proofs.Every.{every_weaken, every_map, every_filter, every_found, every_append, some_and}
use Rattle.proc_table.proofs.Rows.{lwp_of-tid}
use Rattle.proc_table.proofs.Rising.{owned_found}
use Rattle.proc_table.proofs.Lwps.{Differ-map, Differ-with_lwp, Differ-filter, Differ-push, LacksLwp-from_any}
use Rattle.proc_table.proofs.Cursors.{InBlock-after, cursors-set, cursors-first, length-rising}
use Rattle.proc_table.proofs.KeepsProcesses.{Named-more}

-- other LWPs, each of a process that is there, and other cursors
kept-lwps : (rows : Rows) (ls : List LwpData) (cursors : List ℕ) → TableInvariant rows → Differ ls → AllByRecursion (InOwnersBlock rows) ls → length cursors ≡ 64
    → ((u : ℕ) → IsUser u → InBlock (tid_block u) (get_or cursors (slot u) 0)) → TableInvariant (record rows { lwps = ls; tid_cursors = cursors })
kept-lwps rows ls cursors kept differ in_owners_block long home = grind (arith, nat_tests, every_weaken, Named-more)

pub keeps_set_lwp : (new : LwpData) (rows : Rows) → TableInvariant rows → IsSomeAnd (lwp_of new.tid rows.lwps) (λ was. was.pid ≡ new.pid) → TableInvariant (set_lwp new rows)
keeps_set_lwp new rows kept there =
    let was = some_and (λ k. k.pid ≡ new.pid) (lwp_of new.tid rows.lwps) there in
    let its = every_found (InOwnersBlock rows) (λ k. nat_eq k.tid new.tid) rows.lwps was.0 kept.in_owners_block was.1 in
    let number = lwp_of-tid new.tid was.0 rows.lwps was.1 in
    kept-lwps rows (with_lwp new rows.lwps) rows.tid_cursors kept (Differ-with_lwp new rows.lwps kept.differ)
    (every_map (InOwnersBlock rows) (InOwnersBlock rows) (put_lwp new)
    (λ l h. elim (cases_Bool (nat_eq l.tid new.tid)) [ inl e ↦ rw e (its.0, rw was.2 at its.1, rw number at its.2) | inr e ↦ rw e h ]) rows.lwps kept.in_owners_block) kept.tid_slots kept.tid_cursors

-- a change of each LWP of a process
module _ (pid : ℕ) (f : LwpData → LwpData) (number : (l : LwpData) → (f l).tid ≡ l.tid) (process : (l : LwpData) → (f l).pid ≡ l.pid) where
  own-tid : (l : LwpData) → (own_lwp pid f l).tid ≡ l.tid
  own-tid l = grind (arith, nat_tests)

  own-pid : (l : LwpData) → (own_lwp pid f l).pid ≡ l.pid
  own-pid l = grind (arith, nat_tests)

  pub keeps-map_lwps : (rows : Rows) → TableInvariant rows → TableInvariant (map_lwps pid f rows)
  keeps-map_lwps rows kept = search (rules, kept-lwps, Differ-map, own-tid, every_map, own-pid)

pub keeps_drop_lwp : (tid : ℕ) (rows : Rows) → TableInvariant rows → TableInvariant (drop_lwp tid rows)
keeps_drop_lwp tid rows kept = search (rules, kept-lwps, Differ-filter, every_filter)

pub keeps-add_lwp : (u : ℕ) (new : LwpData) (rows : Rows) → IsUser u → TableInvariant rows → is_lwp rows new.tid ≡ false → InBlock (tid_block u) new.tid → owns u new.pid rows.processes ≡ true → TableInvariant (add_lwp u new rows)
keeps-add_lwp u new rows user kept fresh home owner =
    let owned = owned_found u new.pid rows.processes kept.rising owner in
    let in_owners_block : InOwnersBlock rows new = (owned.0, owned.1, rw owned.2 home) in
    kept-lwps rows (rows.lwps ++ (new ∷ [])) _ kept (Differ-push rows.lwps new kept.differ (LacksLwp-from_any new.tid rows.lwps fresh)) (every_append (InOwnersBlock rows) rows.lwps (new ∷ []) kept.in_owners_block (in_owners_block, tt))
    (length-set rows.tid_cursors (slot u) _ ∙ kept.tid_slots) (cursors-set tid_block rows.tid_cursors u _ user kept.tid_slots (InBlock-after (tid_block u) new.tid home (omega arith)) kept.tid_cursors)

pub keeps_none : TableInvariant no_rows
keeps_none = grind (arith, nat_tests, length-rising (λ u. (pid_block u).first) 64 1001, length-rising (λ u. (tid_block u).first) 64 1001, cursors-first pid_block, cursors-first tid_block)
