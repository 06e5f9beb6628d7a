-- The LWPs of a process that ends, and those that wait for it.
use Rattle.trace_stop.proofs.CommonNames.{◌≡◌, ℕ, List, [], ◌∷◌, map, filter, filter_map, Bool, true, false, not, ◌==◌, if◌then◌else◌, Option, Some, None, IfSome, refl, sym, ap, ◌∙◌, true≢false, arith, nat_tests}
use Rattle.trace_stop.proofs.CommonNames.{option_and_then, AllByRecursion, LwpData, ProcData, process_of, is_live, is_live_at, IsLiveChild, Rows, each, by_owner, own_lwp, map_lwps, InOwnersBlock, released, lwp_after}
use Rattle.trace_stop.proofs.CommonNames.{end_each, list_any, FitProcess, Standing, WithOwner, IsSound, map-id, process_of-pid, traces_live, end_alone, without_lwps, lwps_ended, LeavingRow, LeavingLwp, IsLeaving}
use Rattle.trace_stop.proofs.CommonNames.{All-imply, All-both, All-any, All-edit, any_holds, choose, exists, the_row, edit_none, any_by_number, live_row}
use Rattle.trace_stop.proofs.Told.{fallen, told-is, tells, untold, stepped}
use Rattle.trace_stop.proofs.EndsTwice.{alone}
use Rattle.trace_stop.proofs.LeafEnd.{Fits, sound_fits, end_alone_told}
use Rattle.trace_stop.proofs.Steps.{leaving_told}
use Rattle.trace_stop.proofs.LwpEdits.{released-pid}

-- an edit that takes some out and changes the others
map_kept : {X : Type 0} (f : X → Option X) (out : X → Bool) (g : X → X) (xs : List X) → AllByRecursion (λ x. f x ≡ (if out x then None else Some (g x))) xs → map g (filter (λ x. not (out x)) xs) ≡ filter_map f xs
map_kept f out g [] all = refl
map_kept f out g (x ∷ xs) all = grind (arith, all.0, map_kept f out g xs all.1)

-- the row that a row names as its parent, once its LWPs are gone
pub parent_at : (rows rows' : Rows) (q : ℕ) (p : ProcData) (o : Option ProcData) → process_of q rows.processes ≡ Some p → rows' ≡ without_lwps q rows
    → o ≡ option_and_then (λ r. process_of r.parent rows'.processes) (process_of q rows'.processes) → process_of p.parent rows.processes ≡ o
parent_at rows rows' q p o at made is = (cc)

module _ (rows : Rows) (s : IsSound rows) (q : ℕ) (p : ProcData) (at : process_of q rows.processes ≡ Some p) where
  abbrev ps : List ProcData
  ps = rows.processes

  -- what the end makes of an LWP
  abbrev made : LwpData → Option LwpData
  made l = by_owner (lwp_after (λ k. k.pid == q) (alone q)) l (process_of l.pid ps)

  parent_of : (r : ProcData) → IsLiveChild rows r q → r.pid ≡ p.parent
  parent_of r is = any_holds _ (λ k. k.pid ≡ q → k ≡ p) _ (λ k one h. grind (arith, nat_tests, one, h)) ps (the_row q ps p s.stands.rising at) is

  record Owned (l : LwpData) : Type 0 where
    r : ProcData
    found : process_of l.pid ps ≡ Some r
    number : r.pid ≡ l.pid
    stands : Standing rows r l

  owned : AllByRecursion Owned rows.lwps
  owned = All-imply (λ l. InOwnersBlock rows l × WithOwner rows (Standing rows) l) Owned
      (λ l h. record { r = h.0.0; found = h.0.1; number = process_of-pid l.pid h.0.0 ps h.0.1; stands = h.1 h.0.0 h.0.1 }) rows.lwps
      (All-both (InOwnersBlock rows) (WithOwner rows (Standing rows)) rows.lwps s.stands.in_owners_block s.stands.standing)

  -- an LWP waits for p only if p is its process's child
  waits_own : (l : LwpData) (o : Owned l) → (l.pid == p.parent) ≡ false → released (alone q) o.r l ≡ l
  waits_own l o other = let waits = o.stands.waits in let number = o.number in let parent = parent_of o.r in grind (arith, nat_tests, waits, number, parent, other)

  ended_as : (g : LwpData → LwpData) → ((l : LwpData) (o : Owned l) → released (alone q) o.r l ≡ g l) → record rows { lwps = map g (filter (λ l. not (l.pid == q)) rows.lwps) } ≡ lwps_ended q rows
  ended_as g same = ap (λ ls. record rows { lwps = ls }) (map_kept made (λ l. l.pid == q) g rows.lwps
      (All-imply Owned _ (λ l o. let found = o.found in let number = o.number in let is = same l o in rw found (grind (arith, nat_tests, number, is))) rows.lwps owned))

  -- if p has a parent, and if it has none
  pub ended_with : (parent : ProcData) → process_of p.parent ps ≡ Some parent → map_lwps parent.pid (released (alone q) parent) (without_lwps q rows) ≡ lwps_ended q rows
  ended_with parent its = ended_as (own_lwp parent.pid (released (alone q) parent))
      (λ l o. let found = o.found in let number = process_of-pid p.parent parent ps its in let waits = waits_own l o in grind (arith, nat_tests, found, its, number, waits))

  pub ended_without : process_of p.parent ps ≡ None → without_lwps q rows ≡ lwps_ended q rows
  ended_without none = ap (λ ls. record rows { lwps = ls }) (sym (map-id (filter (λ l. not (l.pid == q)) rows.lwps)))
      ∙ ended_as (λ l. l) (λ l o. let found = o.found in let waits = waits_own l o in grind (arith, nat_tests, found, none, waits))

  -- then p is leaving
  module _ (live : is_live_at q rows ≡ true) (leaf : traces_live q rows ≡ false) where
    abbrev alive : ℕ → Bool
    alive n = is_live_at n rows

    row_fits : (r : ProcData) → Fits alive q r × FitProcess r → LeavingRow alive q r
    row_fits r h = let ended = h.1.ended in record {
      lives = h.0.lives;
      tracer = h.0.tracer;
      parent = h.0.parent;
      free = h.0.free;
      left = λ gone. grind (arith, nat_tests, ended, gone);
    }

    lwp_fits : (l : LwpData) → Owned l → IfSome (made l) (LeavingLwp alive q)
    lwp_fits l o =
        let number = o.number in
        let lives : alive l.pid ≡ true = any_by_number is_live l.pid ps s.stands.rising ∙ ap (exists is_live) o.found ∙ o.stands.live in
        rw o.found (choose (o.r.pid == q) None (Some (released (alone q) o.r l)) (λ k. IfSome k (LeavingLwp alive q)) (λ e. tt) (λ other. record {
          lives = rw (released-pid (alone q) o.r l) lives;
          other = rw (released-pid (alone q) o.r l) (grind (arith, nat_tests, number, other));
          waits = grind (arith, nat_tests);
        }))

    pub ended_leaving : IsLeaving q (lwps_ended q rows)
    ended_leaving = record {
      alive = alive;
      here = live;
      processes = All-imply _ _ row_fits ps (All-both _ FitProcess ps (sound_fits rows q s.stands leaf) s.processes);
      lwps = All-edit made Owned (LeavingLwp alive q) lwp_fits rows.lwps owned;
    }

    -- and its end is as it was
    pub ended_same : (w : ℕ) → end_alone q w (lwps_ended q rows) ≡ end_alone q w rows
    ended_same w =
        leaving_told q (lwps_ended q rows) ended_leaving w
        ∙ ap (end_each (fallen (alone q)) (alone q) q w) (ap (λ ks. record rows { processes = ks; lwps = filter_map made rows.lwps }) (sym (edit_none (λ r. Some r) (λ r. refl) ps)) ∙ sym (untold edited))
        ∙ stepped (alone q) (alone q) q w (λ r. Some r) (lwp_after (λ k. k.pid == q) (alone q)) (λ x. false) rows s.stands.rising (λ r. refl) (λ r l. grind (arith, nat_tests))
        (All-any _ (λ r. record { row = refl; lwps = λ alive l. grind (arith, nat_tests, alive); live = λ is. absurd (true≢false (sym is)) }) ps)
        (All-imply (WithOwner rows (Standing rows)) _ (λ l h r is. (h r is).live) rows.lwps s.stands.standing)
        (λ x. told-is (alone q) q w edited x ∙ ap (list_any (tells (alone q) x)) (edit_none (λ r. Some r) (λ r. refl) ps) ∙ sym (told-is (alone q) q w rows x))
        ∙ sym (end_alone_told alive q w rows (sound_fits rows q s.stands leaf) live)
      where
        edited : Rows
        edited = each (λ r. Some r) (lwp_after (λ k. k.pid == q) (alone q)) rows

pub ruleset lwps_ending = (live_row, parent_at, ended_with, ended_without, ended_leaving, ended_same)
