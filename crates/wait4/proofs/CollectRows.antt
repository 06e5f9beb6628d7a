-- The rows after one process is collected, as an edit of its row.
use Rattle.wait4.proofs.CommonNames.{arith, ◌≡◌, ℕ, List, [], ◌∷◌, filter, filter_map, map, true, false, cond, ◌==◌, not, Option, Some, None, refl, sym, ap, ◌∙◌, nat_eq, if◌then◌else◌, rules, nat_tests}
use Rattle.wait4.proofs.CommonNames.{AllByRecursion, ProcData, is_live, process_of, Rows, each, Rise, put_process, set_process, drop_process, notified, equal_or_not, lwps_left, the_row, notified-none}
use Rattle.proc_table.specs.declared.State.{State}
use Rattle.proc_table.specs.Rows.{change_process}
use Rattle.proc_table.proofs.Changes.{change_process-at}
use Rattle.wait4.proofs.CommonNames.{told, stays, collected, collect_one}

-- an edit of the row with one number
module _ (f : ProcData → Option ProcData) (n : ℕ) (p : ProcData) where
  abbrev pub edit_at : ProcData → Option ProcData
  edit_at q = cond (nat_eq q.pid n) (f q) (Some q)

  pub edit-put : (new : ProcData) → new.pid ≡ n → f p ≡ Some new → (qs : List ProcData) → AllByRecursion (λ q. q.pid ≡ n → q ≡ p) qs → filter_map edit_at qs ≡ map (put_process new) qs
  edit-put new its to [] all = refl
  edit-put new its to (q ∷ qs) all = grind (arith, nat_tests, its, to, all.0, edit-put new its to qs all.1)

  pub edit-drop : f p ≡ None → (qs : List ProcData) → AllByRecursion (λ q. q.pid ≡ n → q ≡ p) qs → filter_map edit_at qs ≡ filter (λ q. not (q.pid == n)) qs
  edit-drop to [] all = refl
  edit-drop to (q ∷ qs) all = search (rules, edit-drop to qs all.1, equal_or_not)

module _ (caller : ℕ) (p : ProcData) (rows : Rows) (up : Rise rows.processes) (at : process_of p.pid rows.processes ≡ Some p) where
  only : AllByRecursion (λ q. q.pid ≡ p.pid → q ≡ p) rows.processes
  only = the_row p.pid rows.processes p up at

  abbrev made : Rows
  made = each (λ q. if q.pid == p.pid then collected caller q else Some q) (λ q l. Some l) rows

  put : (new : ProcData) → new.pid ≡ p.pid → collected caller p ≡ Some new → made ≡ set_process new rows
  put new its to = rw (lwps_left rows, edit-put (collected caller) p.pid p new its to rows.processes only) refl

  drop : collected caller p ≡ None → made ≡ drop_process p.pid rows
  drop to = rw (lwps_left rows, edit-drop (collected caller) p.pid p to rows.processes only) refl

  -- no process is notified of a stop, or of a process that continues
  pub collected-seen : (new : ProcData) → new.pid ≡ p.pid → collected caller p ≡ Some new → is_live p ≡ true → collect_one caller p rows ≡ set_process new rows
  collected-seen new its to live = let none : told caller p ≡ [] = grind (arith, live) in ap (λ ns. notified ns made) none ∙ notified-none made ∙ put new its to

  -- nor where only the state becomes another
  pub collected-state : (state : State) → collected caller p ≡ Some (record p { state = state }) → is_live p ≡ true → change_process p.pid (λ q. record q { state = state }) rows ≡ collect_one caller p rows
  collected-state state to live = change_process-at p.pid (λ q. record q { state = state }) rows p up at refl ∙ sym (collected-seen (record p { state = state }) refl to live)

  -- the parent is notified of a zombie that stays
  pub collected-passed : (new : ProcData) → new.pid ≡ p.pid → collected caller p ≡ Some new → is_live p ≡ false → stays caller p ≡ true → collect_one caller p rows ≡ notified (p.parent ∷ []) (set_process new rows)
  collected-passed new its to ended stay = let one : told caller p ≡ p.parent ∷ [] = grind (arith, ended, stay) in ap (λ ns. notified ns made) one ∙ ap (notified (p.parent ∷ [])) (put new its to)

  -- and no process of a zombie that is gone
  pub collected-gone : collected caller p ≡ None → stays caller p ≡ false → collect_one caller p rows ≡ drop_process p.pid rows
  collected-gone to leaves = let none : told caller p ≡ [] = grind (arith, leaves) in ap (λ ns. notified ns made) none ∙ notified-none made ∙ drop to
