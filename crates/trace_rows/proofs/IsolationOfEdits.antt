-- The other primitives: one process, one LWP, new rows; and branches of rows.
use Rattle.std.proofs.Common.{filter, ◌≡◌, ◌≢◌, ℕ, ◌<◌, List, [], ◌∷◌, ◌++◌, length, Bool, true, false, ◌==◌, if◌then◌else◌, Option, Some, refl, sym, ap, ◌∙◌, arith, eqb, eqb-true, subst, append-nil, get_or, set, get_or-set_same, get_or-set_other, length-set, inl, rules}
use Rattle.trace_rows.proofs.CommonNames.{of_user, AllByRecursion, IsUser, ProcData, LwpData, is_live, placed, Rows, owner, by_owner, each, change, edit_processes, edit_lwps, change_process}
use Rattle.trace_rows.proofs.CommonNames.{change_lwp, remove_lwp, is_process, add_process, add_lwp}
use Rattle.std.proofs.lemmas.List.Elements.{filter-append}
use Rattle.pid_blocks.specs.Blocks.{pid_owner, tid_owner, pid_block, tid_block, slot, cursor_after, InBlock}
use Rattle.trace_rows.specs.Closed.{GoodProc, GoodLwp, LiveRow, LiveOwner}
use Rattle.trace_rows.proofs.Every.{find_none, none_of, All-imply, All-append, choose, choose_both}
use Rattle.trace_rows.proofs.Edited.{edit_none}
use Rattle.trace_rows.proofs.Passes.{filter_map_same}
use Rattle.trace_rows.proofs.Placed.{process_of-other}
use Rattle.trace_rows.proofs.FilteredLists.{All-where, placed-only, placed-other}
use Rattle.trace_rows.proofs.IsolationRelation.{Sim, SameOwnership, SameOwnershipLwp, own, own_lwp, is_own, not_own, named, process_same, each_same}
use Rattle.trace_rows.proofs.SoundAfterEdit.{processes_alone}
use Rattle.proc_table.proofs.Placed.{Rise-placed, every_placed}
use Rattle.proc_table.proofs.Rising.{Lacks-from_any}
use Rattle.proc_table.proofs.Cursors.{InBlock-after}

-- what a process of u becomes if it isn't gone: a live one stays live
abbrev pub Stays : ProcData → ProcData → Type 0
Stays p q = (q.pid ≡ p.pid) × (q.uid ≡ p.uid) × GoodProc q × (is_live p ≡ true → is_live q ≡ true)

abbrev pub StaysLwp : LwpData → LwpData → Type 0
StaysLwp l k = (k.pid ≡ l.pid) × GoodLwp k

pub stays_if : (p q : ProcData) (b : Bool) → GoodProc p → (b ≡ true → Stays p q) → Stays p (if b then q else p)
stays_if p q b good h = choose b q p (Stays p) h (λ e. (refl, refl, good, λ live. live))

pub kin_of : (p q : ProcData) → Stays p q → SameOwnership p (Some q)
kin_of p q st = (st.0, st.1, st.2)

-- chosen rows, all of u
pub change_same : {u : ℕ} {start c v : Rows} → Sim u start c v → (chosen : ProcData → Bool) (process : ProcData → ProcData) (lwp : ProcData → LwpData → LwpData)
    → ((p : ProcData) → GoodProc p → p.uid ≢ u → chosen p ≡ false)
    → ((p : ProcData) → GoodProc p → p.uid ≡ u → chosen p ≡ true → Stays p (process p))
    → ((p : ProcData) (l : LwpData) → GoodProc p → GoodLwp l → StaysLwp l (lwp p l))
    → Sim u start (change chosen process lwp c) (change chosen process lwp v)
change_same s chosen process lwp foreign mine mine_lwp = each_same s (λ p. Some (if chosen p then process p else p)) (λ p l. Some (if chosen p then lwp p l else l)) (record {
  mine = λ p good is. grind (arith, mine p good is, good);
  foreign = λ p good ne. rw (foreign p good ne) refl;
  lwp = λ p l good well is here. grind (arith, mine_lwp p l good well, well);
  foreign_lwp = λ p l good well ne here. rw (foreign p good ne) refl;
  live = λ p l good is live. inl (grind (arith, mine p good is, live));
})

-- only processes
pub edit_same : {u : ℕ} {start c v : Rows} → Sim u start c v → (f : ProcData → Option ProcData)
    → ((p : ProcData) → GoodProc p → p.uid ≡ u → SameOwnership p (f p))
    → ((p : ProcData) → GoodProc p → p.uid ≢ u → f p ≡ Some p)
    → ((p : ProcData) → GoodProc p → p.uid ≡ u → is_live p ≡ true → LiveRow (f p))
    → Sim u start (edit_processes f c) (edit_processes f v)
edit_same {u} {start} {c} {v} s f mine foreign live = search (rules, processes_alone, each_same)

-- one process of u
pub process_same_after : {u : ℕ} {start c v : Rows} → Sim u start c v → (n : ℕ) → pid_owner n ≡ u → (f : ProcData → ProcData)
    → ((p : ProcData) → GoodProc p → p.uid ≡ u → p.pid ≡ n → Stays p (f p))
    → Sim u start (change_process n f c) (change_process n f v)
process_same_after {u} s n here f stays = edit_same s (λ p. Some (if p.pid == n then f p else p))
    (λ p good is. kin_of p _ (kept p good is))
    (λ p good ne. rw (not_own n p.pid (λ e. ne (named here p good e))) refl)
    (λ p good is live. let st = kept p good is in st.3 live)
  where
    kept : (p : ProcData) → GoodProc p → p.uid ≡ u → Stays p (if p.pid == n then f p else p)
    kept p good is = stays_if p (f p) (p.pid == n) good (λ e. stays p good is (eqb-true p.pid n e))

-- only LWPs
lwps_alone : (g : LwpData → Option LwpData) (rows : Rows) → AllByRecursion (LiveOwner rows.processes) rows.lwps → each (λ p. Some p) (λ p l. g l) rows ≡ edit_lwps g rows
lwps_alone g rows in_owners_block = rw (
  edit_none (λ p. Some p) (λ p. refl) rows.processes,
  filter_map_same (λ l. by_owner (λ p k. g k) l (owner rows l)) g rows.lwps (All-imply (LiveOwner rows.processes) _ (λ l house. grind (arith, house)) rows.lwps in_owners_block),
) refl

seen_housed : {u : ℕ} {start c v : Rows} → Sim u start c v → AllByRecursion (LiveOwner v.processes) v.lwps
seen_housed {u} {start} {c} {v} s = subst (AllByRecursion (LiveOwner v.processes)) s.lwps (All-where (own_lwp u) (LiveOwner c.processes) (LiveOwner v.processes) (λ l house is. subst LiveRow (process_same s l.pid (eqb-true (pid_owner l.pid) u is)) house) c.lwps s.kept.closed.in_owners_block)

pub edit_lwps_same : {u : ℕ} {start c v : Rows} → Sim u start c v → (g : LwpData → Option LwpData)
    → ((l : LwpData) → GoodLwp l → SameOwnershipLwp l (g l))
    → ((l : LwpData) → GoodLwp l → pid_owner l.pid ≢ u → g l ≡ Some l)
    → Sim u start (edit_lwps g c) (edit_lwps g v)
edit_lwps_same {u} {start} {c} {v} s g keep foreign = subst (Sim u start (edit_lwps g c)) (lwps_alone g v (seen_housed s)) (subst (λ rows. Sim u start rows (each (λ p. Some p) (λ p l. g l) v)) (lwps_alone g c s.kept.closed.in_owners_block) (each_same s (λ p. Some p) (λ p l. g l) (record {
  mine = λ p good is. (refl, refl, good);
  foreign = λ p good ne. refl;
  lwp = λ p l good well is here. keep l well;
  foreign_lwp = λ p l good well ne here. foreign l well (λ e. ne (sym good.block ∙ ap pid_owner here ∙ e));
  live = λ p l good is live. inl live;
})))

-- one LWP of u
module _ {u : ℕ} {start c v : Rows} (s : Sim u start c v) (tid : ℕ) (here : tid_owner tid ≡ u) where
  other_tid : (l : LwpData) → GoodLwp l → pid_owner l.pid ≢ u → eqb l.tid tid ≡ false
  other_tid l well ne = not_own tid l.tid (λ e. ne (sym well.block ∙ ap tid_owner e ∙ here))

  pub lwp_same_after : (f : LwpData → LwpData) → ((l : LwpData) → GoodLwp l → pid_owner l.pid ≡ u → StaysLwp l (f l)) → Sim u start (change_lwp tid f c) (change_lwp tid f v)
  lwp_same_after f stays = edit_lwps_same s (λ l. Some (if l.tid == tid then f l else l))
      (λ l well. choose (l.tid == tid) (f l) l (StaysLwp l) (λ e. stays l well (sym well.block ∙ ap tid_owner (eqb-true l.tid tid e) ∙ here)) (λ e. (refl, well)))
      (λ l well ne. rw (other_tid l well ne) refl)

  pub lwp_removed_same : Sim u start (remove_lwp tid c) (remove_lwp tid v)
  lwp_removed_same = search (rules, edit_lwps_same, choose, other_tid)

-- New rows

pub slots_differ : (u w : ℕ) → IsUser u → IsUser w → w ≢ u → slot w ≢ slot u
slots_differ u w user other ne e = ne (omega arith)

pub put_at : {X : Type 0} (u : ℕ) (xs : List X) (x d : X) → IsUser u → length xs ≡ 64 → get_or (set xs (slot u) x) (slot u) d ≡ x
put_at u xs x d user is = let lt : slot u < length xs = omega arith in rw get_or-set_same refl

-- the cursors of all rows and of those that u sees, once u's cursor has moved
cursors_moved : (u : ℕ) → IsUser u → (cs vs starts : List ℕ) (x : ℕ) → length cs ≡ 64 → length vs ≡ 64 → ((w : ℕ) → IsUser w → w ≢ u → get_or cs (slot w) 0 ≡ get_or starts (slot w) 0)
    → (length (set cs (slot u) x) ≡ 64) × (length (set vs (slot u) x) ≡ 64) × (get_or (set cs (slot u) x) (slot u) 0 ≡ x) × (get_or (set cs (slot u) x) (slot u) 0 ≡ get_or (set vs (slot u) x) (slot u) 0)
    × ((w : ℕ) → IsUser w → w ≢ u → get_or (set cs (slot u) x) (slot w) 0 ≡ get_or starts (slot w) 0)
cursors_moved u user cs vs starts x c_slots v_slots kept =
    let c_is = put_at u cs x 0 user c_slots in
    let v_is = put_at u vs x 0 user v_slots in
    (length-set cs (slot u) x ∙ c_slots, length-set vs (slot u) x ∙ v_slots, c_is, c_is ∙ sym v_is, λ w other ne. let differ = slots_differ u w user other ne in rw get_or-set_other (kept w other ne))

-- a new process of u
pub process_added_same : {u : ℕ} {start c v : Rows} → Sim u start c v → (p : ProcData) → p.uid ≡ u → GoodProc p → InBlock (pid_block u) p.pid → is_process c p.pid ≡ false → Sim u start (add_process p c) (add_process p v)
process_added_same {u} {start} {c} {v} s p mine good block free =
    let closed = s.kept.closed in
    let user = closed.user in
    let moved = cursors_moved u user c.pid_cursors v.pid_cursors start.pid_cursors (cursor_after (pid_block u) p.pid) closed.pid_slots s.pid_slots s.kept.pid_cursor in
    let within = subst (InBlock (pid_block u)) (sym moved.2) (InBlock-after (pid_block u) p.pid block (omega arith)) in
    let processes = every_placed GoodProc p c.processes good closed.processes in
    let owners = All-imply (LiveOwner c.processes) (LiveOwner (placed p c.processes)) in_owners_block c.lwps closed.in_owners_block in
    let rising = Rise-placed p c.processes closed.rising (Lacks-from_any p.pid c.processes free) in
    let other : (w : ℕ) → w ≢ u → of_user w (placed p c.processes) ≡ of_user w start.processes =
    λ w ne. placed-other (own w) p c.processes (not_own w p.uid (λ e. ne (sym e ∙ mine))) closed.rising free ∙ s.kept.processes w ne in
    let own_processes = placed-only (own u) p c.processes (is_own u p.uid mine) ∙ ap (placed p) s.processes in
    subst (λ w. Sim u start (at w c) (at w v)) (sym mine) (assumption)
  where
    at : ℕ → Rows → Rows
    at w rows = record rows { processes = placed p rows.processes; pid_cursors = set rows.pid_cursors (slot w) (cursor_after (pid_block w) p.pid) }

    in_owners_block : (l : LwpData) → LiveOwner c.processes l → LiveOwner (placed p c.processes) l
    in_owners_block l house = subst LiveRow (sym (process_of-other p c.processes s.kept.closed.rising free l.pid (λ e. subst LiveRow (find_none (λ q. q.pid == l.pid) c.processes (none_of (λ q. q.pid == l.pid) c.processes (ap (is_process c) e ∙ free))) house))) house

-- a new LWP of u
pub lwp_added_same : {u : ℕ} {start c v : Rows} → Sim u start c v → (l : LwpData) → pid_owner l.pid ≡ u → GoodLwp l → LiveOwner c.processes l → InBlock (tid_block u) l.tid → Sim u start (add_lwp u l c) (add_lwp u l v)
lwp_added_same {u} {start} {c} {v} s l mine well house block =
    let closed = s.kept.closed in
    let user = closed.user in
    let moved = cursors_moved u user c.tid_cursors v.tid_cursors start.tid_cursors (cursor_after (tid_block u) l.tid) closed.tid_slots s.tid_slots s.kept.tid_cursor in
    let within = subst (InBlock (tid_block u)) (sym moved.2) (InBlock-after (tid_block u) l.tid block (omega arith)) in
    let lwps = All-append GoodLwp c.lwps (l ∷ []) closed.lwps (well, tt) in
    let owners = All-append (LiveOwner c.processes) c.lwps (l ∷ []) closed.in_owners_block (house, tt) in
    let other : (w : ℕ) → w ≢ u → filter (own_lwp w) (c.lwps ++ (l ∷ [])) ≡ filter (own_lwp w) start.lwps =
    λ w ne. filter-append (own_lwp w) c.lwps (l ∷ []) ∙ rw (not_own w (pid_owner l.pid) (λ e. ne (sym e ∙ mine)), append-nil) (s.kept.lwps w ne) in
    let own_lwps : filter (own_lwp u) (c.lwps ++ (l ∷ [])) ≡ v.lwps ++ (l ∷ []) = filter-append (own_lwp u) c.lwps (l ∷ []) ∙ rw (is_own u (pid_owner l.pid) mine) (ap (λ xs. xs ++ l ∷ []) s.lwps) in
    assumption

-- A branch of rows

pub branch_rows : {u : ℕ} {start : Rows} (b d : Bool) → b ≡ d → {p q p' q' : Rows} → (b ≡ true → Sim u start p p') → (b ≡ false → Sim u start q q') → Sim u start (if b then p else q) (if d then p' else q')
branch_rows {u} {start} b d e {p} {q} {p'} {q'} yes' no' = subst (λ x. Sim u start (if b then p else q) (if x then p' else q')) e (choose_both (Sim u start) b p q p' q' yes' no')
