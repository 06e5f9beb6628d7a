-- A tracee or a child that is taken from a process that ends, over the tables' edits.
use Rattle.trace_stop.proofs.CommonNames.{◌≡◌, ℕ, ◌<◌, List, [], ◌∷◌, find, filter_map, Bool, true, false, not, ◌&&◌, ◌||◌, ◌==◌, if◌then◌else◌, Option, Some, None, is_some, refl, sym, ap, ◌∙◌, arith, true≢false}
use Rattle.trace_stop.proofs.CommonNames.{subst, option_map, count_by, ltb, and-false, nat_tests, AllByRecursion, list_any, first_lwp, ProcData, Rows, each, process_of, is_live, traces, next_tracee, next_child}
use Rattle.trace_stop.proofs.CommonNames.{InOwnBlock, Rise, TableInvariant, Named, set_process, drop_process, notified, uncollected, collector, end_alone, LeavingRow, LeavingLwp, IsLeaving, every_found, found_tested}
use Rattle.trace_stop.proofs.CommonNames.{named-untraced, choose, by_bool, and_left, and_right, All-imply, All-any, count_same, any_holds, find_some, find_none, none_of, none_passes, find_passes, exists, any_edited}
use Rattle.trace_stop.proofs.CommonNames.{count_edited, own_rows}
use Rattle.trace_stop.proofs.Told.{heard, notified_row, tell, told_by, tells, whom, untold}
use Rattle.trace_stop.proofs.LeafEnd.{count_fewer}
use Rattle.trace_stop.proofs.Steps.{replaced, same_lwp, drop_each, set_each, collected_none, collected_some, collector_none, collector_some, zombie_made, Replaces, step_leaving, step_same}

-- what a step on the way to q's end leaves, if it takes one of those that pass a test
pub record Step (q : ℕ) (u : ProcData → Bool) (rows rows' : Rows) : Type 0 where
  pub leaving : IsLeaving q rows'
  pub fewer : count_by u rows'.processes < count_by u rows.processes
  pub same : (w : ℕ) → end_alone q w rows' ≡ end_alone q w rows

module _ (q : ℕ) (u : ProcData → Bool) (rows rows' : Rows) (kept : TableInvariant rows) (v : IsLeaving q rows) (z : ProcData) (at : process_of z.pid rows.processes ≡ Some z) (is : u z ≡ true)
    (o : Option ProcData) (t : ℕ → Bool) (alike : (r : ProcData) → u (notified_row t r) ≡ u r) (none : exists u o ≡ false) (made : rows' ≡ tell t (each (replaced z.pid o) same_lwp rows)) where
  passed : (r : ProcData) → exists u (replaced z.pid o r) ≡ (u r && not (r.pid == z.pid))
  passed r = grind (arith, nat_tests, none)

  fewer : count_by u rows'.processes < count_by u rows.processes
  fewer =
      let left : List ProcData = filter_map (replaced z.pid o) rows.processes in
      let told = count_edited (λ r. Some (notified_row t r)) u left ∙ count_same (λ r. u (notified_row t r)) u left (All-any _ alike left) in
      let taken = count_edited (replaced z.pid o) u rows.processes in
      let less = count_fewer (λ r. exists u (replaced z.pid o r)) u rows.processes (All-any _ (λ r h. and_left (u r) _ (sym (passed r) ∙ h)) rows.processes)
      (find_passes (λ r. r.pid == z.pid) _ rows.processes z at (grind (arith, nat_tests, is, passed z))) in
      rw made (omega (arith, told, taken, less))

  pub step : Replaces v.alive q z o t → Step q u rows rows'
  step k = record {
    leaving = subst (IsLeaving q) (sym made) (step_leaving q rows v kept.rising z at o t k);
    fewer = fewer;
    same = λ w. ap (end_alone q w) made ∙ step_same q rows v kept.rising z at o t k w;
  }

-- nor does any other row pass a test that the new row fails
pub none_left : (u : ProcData → Bool) (n : ℕ) (o : Option ProcData) (rows : Rows) → exists u o ≡ false → list_any u rows.processes ≡ false → list_any u (each (replaced n o) same_lwp rows).processes ≡ false
none_left u n o rows none all = any_edited (replaced n o) u rows.processes ∙ none_passes (λ r. exists u (replaced n o r)) (λ r. u r ≡ false) (λ r e. grind (arith, nat_tests, none, e)) rows.processes (none_of u rows.processes all)

traced-told : (q : ℕ) (t : ℕ → Bool) (r : ProcData) → traces q (notified_row t r) ≡ traces q r
unfolding notified_row heard
traced-told q t r = grind arith

parent-told : (q : ℕ) (t : ℕ → Bool) (r : ProcData) → ((notified_row t r).parent == q) ≡ (r.parent == q)
unfolding notified_row heard
parent-told q t r = grind arith

-- no row passes a test if none above zero does, and the other way
pub none_from : (t : ProcData → Bool) (ps : List ProcData) → AllByRecursion InOwnBlock ps → find (λ p. ltb 0 p.pid && t p) ps ≡ None → list_any t ps ≡ false
none_from t [] in_own_blocks none = refl
none_from t (p ∷ ps) in_own_blocks none = grind (arith, nat_tests, none_from t ps in_own_blocks.1)

pub unnamed : (t : ProcData → Bool) (ps : List ProcData) → list_any t ps ≡ false → find (λ p. ltb 0 p.pid && t p) ps ≡ None
unnamed t ps none = find_none _ ps (All-imply _ _ (λ r e. rw e (and-false (ltb 0 r.pid))) ps (none_of t ps none))

pub left_lwps : (q : ℕ) (rows : Rows) → IsLeaving q rows → first_lwp q rows.lwps ≡ None
left_lwps q rows v = find_none _ rows.lwps (All-imply (LeavingLwp v.alive q) _ (λ l h. h.other) rows.lwps v.lwps)

-- the walks over what a process's end takes
pub found_there : (t : ProcData → Bool) (ps : List ProcData) (z : ProcData) → Rise ps → find t ps ≡ Some z → process_of z.pid ps ≡ Some z
found_there t ps z rise at = every_found (λ p. process_of p.pid ps ≡ Some p) t ps z (own_rows ps rise) at

pub tracee_traced : (q : ℕ) (ps : List ProcData) (z : ProcData) → next_tracee q 0 ps ≡ Some z → traces q z ≡ true
tracee_traced q ps z at = and_right (ltb 0 z.pid) (traces q z) (found_tested (λ r. ltb 0 r.pid && traces q r) ps z at)

pub child_named : (q : ℕ) (ps : List ProcData) (z : ProcData) → next_child q 0 ps ≡ Some z → (z.parent == q) ≡ true
child_named q ps z at = and_right (ltb 0 z.pid) (z.parent == q) (found_tested (λ r. ltb 0 r.pid && (r.parent == q)) ps z at)

-- A tracee, which is a zombie

abbrev pub orphan_of : ℕ → ProcData → ProcData
orphan_of q z = record z { tracer = None; parent = if z.parent == q then 1 else z.parent }

abbrev pub orphan : ProcData → ProcData
orphan r = record r { parent = 1 }

module _ (q : ℕ) (rows rows' : Rows) (kept : TableInvariant rows) (v : IsLeaving q rows) (z : ProcData) (at : process_of z.pid rows.processes ≡ Some z) where
  z_fits : LeavingRow v.alive q z
  z_fits = (find_some (λ r. r.pid == z.pid) (LeavingRow v.alive q) rows.processes v.processes z at).0

  -- no row names a zombie
  module _ (ended : is_live z ≡ false) where
    dead : v.alive z.pid ≡ false
    dead = sym z_fits.lives ∙ ended

    pub zombie_tracees : next_tracee z.pid 0 rows.processes ≡ None
    zombie_tracees = unnamed (traces z.pid) rows.processes (none_passes (traces z.pid) (LeavingRow v.alive q) (λ r h. let tracer = h.tracer in grind (arith, nat_tests, tracer, dead)) rows.processes v.processes)

    pub zombie_children : next_child z.pid 0 rows.processes ≡ None
    zombie_children = unnamed (λ r. r.parent == z.pid) rows.processes (none_passes (λ r. r.parent == z.pid) (LeavingRow v.alive q) (λ r h. grind (arith, nat_tests, h.parent, dead, every_found InOwnBlock (λ k. k.pid == z.pid) rows.processes z kept.in_own_blocks at)) rows.processes v.processes)

    pub zombie_lwps : first_lwp z.pid rows.lwps ≡ None
    zombie_lwps = find_none _ rows.lwps (All-imply (LeavingLwp v.alive q) _ (λ l h. let lives = h.lives in grind (arith, nat_tests, lives, dead)) rows.lwps v.lwps)

  module _ (traced : traces q z ≡ true) where
    pub tracee_ended : is_live z ≡ false
    tracee_ended = by_bool (is_live z) (λ live. true≢false (sym traced ∙ z_fits.free live))

    tracee_replaced : Replaces v.alive q z (uncollected (orphan_of q z)) (whom (orphan_of q z))
    unfolding tells told_by
    tracee_replaced = grind (arith, nat_tests, z_fits, tracee_ended, traced)

    tracee_step : rows' ≡ zombie_made (orphan_of q z) rows → Step q (traces q) rows rows'
    tracee_step made = step q (traces q) rows rows' kept v z at traced (uncollected (orphan_of q z)) (whom (orphan_of q z)) (traced-told q (whom (orphan_of q z))) (grind arith) made tracee_replaced

    -- what the code does by its collector
    pub tracee_out : option_map collector (uncollected (orphan_of q z)) ≡ None → rows' ≡ drop_process z.pid rows → Step q (traces q) rows rows'
    tracee_out none made = tracee_step (made ∙ collected_none (orphan_of q z) rows (collector_none (orphan_of q z) none))

    pub tracee_told : (m : ℕ) → option_map collector (uncollected (orphan_of q z)) ≡ Some m → rows' ≡ notified (m ∷ []) (set_process (orphan_of q z) rows) → Step q (traces q) rows rows'
    tracee_told m some made = tracee_step (made ∙ collected_some (orphan_of q z) rows m (collector_some (orphan_of q z) m some))

    pub tracee_named : (m : ℕ) → option_map collector (uncollected (orphan_of q z)) ≡ Some m → Named rows (orphan_of q z)
    tracee_named m some = named-untraced rows z (orphan_of q z) at kept refl (grind (arith, nat_tests, some))

  -- A child
  module _ (untraced : list_any (traces q) rows.processes ≡ false) (child : (z.parent == q) ≡ true) where
    abbrev stays : Bool
    stays = is_live z || is_some z.tracer

    q_row : (q == 1) ≡ false
    q_row = by_bool (q == 1) (λ one. any_holds (λ r. (r.pid == q) && is_live r) InOwnBlock ⊥ (λ r home is. let low = home.block.0 in absurd (grind (arith, nat_tests, low, is, one))) rows.processes kept.in_own_blocks v.here)

    child_replaced : Replaces v.alive q z (if stays then Some (orphan z) else None) (λ x. false)
    unfolding tells told_by
    child_replaced = grind (arith, nat_tests, z_fits, child)

    pub child_is_named : Named rows (orphan z)
    child_is_named = record { tracer = (every_found (Named rows) (λ r. r.pid == z.pid) rows.processes z kept.named at).tracer; parent = λ other. absurd (other refl) }

    pub child_step : rows' ≡ (if stays then set_process (orphan z) rows else drop_process z.pid rows) → Step q (λ r. r.parent == q) rows rows' × (list_any (traces q) rows'.processes ≡ false)
    child_step is = (
      step q (λ r. r.parent == q) rows rows' kept v z at child (if stays then Some (orphan z) else None) (λ x. false) (parent-told q (λ x. false)) (grind (arith, nat_tests, q_row)) (made ∙ sym (untold edited)) child_replaced,
      ap (λ (rs : Rows). list_any (traces q) rs.processes) made ∙ none_left (traces q) z.pid (if stays then Some (orphan z) else None) rows (grind (arith, nat_tests, untraced_z)) untraced,
    )
      where
        edited : Rows
        edited = each (replaced z.pid (if stays then Some (orphan z) else None)) same_lwp rows

        made : rows' ≡ edited
        made = is ∙ choose stays (set_process (orphan z) rows) (drop_process z.pid rows) (λ rs. rs ≡ edited) (λ e. rw e (set_each (orphan z) rows)) (λ e. rw e (drop_each z.pid rows))

        untraced_z : traces q z ≡ false
        untraced_z = (find_some (λ r. r.pid == z.pid) (λ r. traces q r ≡ false) rows.processes (none_of (traces q) rows.processes untraced) z at).0

pub ruleset taking = (found_there, tracee_traced, child_named, none_from)
