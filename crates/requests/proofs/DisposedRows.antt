-- Which dispositions a process may have, and its row with others.
use Rattle.requests.proofs.CommonNames.{◌≡◌, ℕ, Some, None, is_some, not, if◌then◌else◌, refl, ap, arith, rules, cases_Bool, le-leb, nat_tests, may_have, set_disposition, IsSignal, Disposition}
use Rattle.requests.proofs.CommonNames.{ProcData, process_of, Rows, Rise, IsRow, set_process, found_row, process-set, change_process-at, settle, some_is, is_refused, sigaction, Reply}
use Rattle.signals.specs.Dispositions.{Actions}

pub refused_is : (s : ℕ) (d : Disposition) → IsSignal s → is_refused s d ≡ not (may_have s d)
refused_is s d is = search (rules, le-leb)

-- a process with other dispositions, settled
module _ (rows rows1 : Rows) (p new : ProcData) (at : process_of p.pid rows.processes ≡ Some p) where
  pub row_there : new.pid ≡ p.pid → rows1 ≡ set_process new rows → IsRow rows1 p.pid
  row_there same is =
      let here : process_of new.pid rows.processes ≡ Some p = rw same at in
      rw (is, ← same) (found_row new.pid new (set_process new rows).processes (process-set new rows (ap is_some here)))

  pub disposed_rows : (s : ℕ) (d : Disposition) (actions : Actions) (rows2 : Rows) → Rise rows.processes
      → Some actions ≡ (if is_refused s d then None else Some (set_disposition p.dispositions s d)) → new ≡ record p { dispositions = actions }
      → rows1 ≡ set_process new rows → rows2 ≡ settle p.pid rows1
      → (rows2 ≡ (sigaction p s d rows).rows) × (Reply.Done ≡ (sigaction p s d rows).reply)
  disposed_rows s d actions rows2 rise taken its set settled = grind (arith, nat_tests, cases_Bool (is_refused s d), some_is, change_process-at p.pid (λ q. record q { dispositions = set_disposition q.dispositions s d }) rows p rise at refl)
