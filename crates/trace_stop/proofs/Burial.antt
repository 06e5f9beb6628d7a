-- The LWPs of a process that ends, and its own end once no row names it and no LWP waits for it.
use Rattle.trace_stop.proofs.CommonNames.{◌≡◌, ℕ, List, [], ◌∷◌, true, false, ◌&&◌, ◌==◌, Some, None, sym, ap, ◌∙◌, arith, eqb-true, option_map, fun_ext, nat_tests, AllByRecursion, list_any}
use Rattle.trace_stop.proofs.CommonNames.{ProcData, LwpData, Rows, Rise, each, process_of, is_live, traces, uncollected, collector, dead, process_after, lwp_after, notified, set_process}
use Rattle.trace_stop.proofs.CommonNames.{drop_process, end_alone, LeavingRow, LeavingLwp, IsLeaving, All-imply, All-both, none_of, find_some, find_passes, each_equal, the_row, live_row, found_row}
use Rattle.trace_stop.proofs.Taken.{left_lwps}
use Rattle.trace_stop.proofs.Told.{any_but, fallen, tell, told, told-is, tells, told_by, whom, whom-is, end_tell}
use Rattle.trace_stop.proofs.EndsTwice.{alone}
use Rattle.trace_stop.proofs.Steps.{replaced, same_lwp, leaving_told, alive_q, live_owners, collected_none, collected_some, collector_none, collector_some}

module _ (q w : ℕ) (rows : Rows) (rise : Rise rows.processes) (v : IsLeaving q rows) (p : ProcData) (at : process_of q rows.processes ≡ Some p)
    (untraced : list_any (traces q) rows.processes ≡ false) (childless : list_any (λ r. r.parent == q) rows.processes ≡ false) where
  abbrev ps : List ProcData
  ps = rows.processes

  record Row (r : ProcData) : Type 0 where
    fits : LeavingRow v.alive q r
    one : r.pid ≡ q → r ≡ p
    free : traces q r ≡ false
    other : (r.parent == q) ≡ false

  all : AllByRecursion Row ps
  all = All-imply (λ r. (LeavingRow v.alive q r × (r.pid ≡ q → r ≡ p)) × ((traces q r ≡ false) × ((r.parent == q) ≡ false))) Row
      (λ r h. record { fits = h.0.0; one = h.0.1; free = h.1.0; other = h.1.1 }) ps
      (All-both _ _ ps (All-both _ _ ps v.processes (the_row q ps p rise at)) (All-both _ _ ps (none_of (traces q) ps untraced) (none_of (λ r. r.parent == q) ps childless)))

  p_row : Row p × ((p.pid == q) ≡ true)
  p_row = find_some (λ r. r.pid == q) Row ps all p at

  p_number : p.pid ≡ q
  p_number = eqb-true p.pid q p_row.1

  p_live : is_live p ≡ true
  p_live = p_row.0.fits.lives ∙ ap v.alive p_number ∙ alive_q q rows v

  -- what becomes of each row
  row_ends : (r : ProcData) → Row r → process_after (fallen (alone q)) (alone q) q w r ≡ replaced p.pid (uncollected (dead w p)) r
  row_ends r h = grind (arith, nat_tests, h.free, h.one, h.fits.left, h.other, p_live, p_number)

  lwp_ends : (l : LwpData) → LeavingLwp v.alive q l × ((r : ProcData) → process_of l.pid ps ≡ Some r → is_live r ≡ true) → (r : ProcData) → process_of l.pid ps ≡ Some r → lwp_after (fallen (alone q)) (alone q) r l ≡ same_lwp r l
  lwp_ends l h r found = let same = (find_some (λ k. k.pid == l.pid) Row ps all r found).1 in let waits = h.0.waits in let other = h.0.other in grind (arith, nat_tests, same, waits, other)

  row_tells : (x : ℕ) (r : ProcData) → Row r → tells (alone q) x r ≡ ((r.pid == q) && whom (dead w p) x)
  unfolding tells told_by
  row_tells x r h = let one = h.one in let free = h.free in let other = h.other in grind (arith, nat_tests, one, free, other, p_live, whom-is (dead w p) x)

  buried : end_alone q w rows ≡ tell (whom (dead w p)) (each (replaced p.pid (uncollected (dead w p))) same_lwp rows)
  buried =
      leaving_told q rows v w
      ∙ end_tell (alone q) q w rows
      ∙ ap (tell (told (alone q) q w rows)) (each_equal _ (replaced p.pid (uncollected (dead w p))) _ same_lwp rows (All-imply Row _ row_ends ps all)
      (All-imply _ _ lwp_ends rows.lwps (All-both _ _ rows.lwps v.lwps (live_owners q rows v))))
      ∙ ap (λ t. tell t (each (replaced p.pid (uncollected (dead w p))) same_lwp rows)) (fun_ext (λ x. told-is (alone q) q w rows x
      ∙ any_but (λ r. r.pid == q) (tells (alone q) x) (whom (dead w p) x) ps (All-imply Row _ (row_tells x) ps all)
      ∙ ap (λ b. b && whom (dead w p) x) (find_passes (λ r. r.pid == q) (λ r. r.pid == q) ps p at p_row.1)))

  pub buried_out : option_map collector (uncollected p) ≡ None → drop_process q rows ≡ end_alone q w rows
  buried_out none = ap (λ n. drop_process n rows) (sym p_number) ∙ collected_none (dead w p) rows (collector_none p none) ∙ sym buried

  pub buried_told : (m : ℕ) → option_map collector (uncollected p) ≡ Some m → notified (m ∷ []) (set_process (dead w p) rows) ≡ end_alone q w rows
  buried_told m some = collected_some (dead w p) rows m (collector_some p m some) ∙ sym buried

pub ruleset burying = (live_row, found_row, left_lwps, buried_out, buried_told)
