-- What edits of a process's row keep.
use Rattle.proc_table.proofs.CommonNames.{◌≡◌, ℕ, false, ◌∙◌, arith, inl, inr, nat_eq, None, rules, not, ltb, IsSomeAnd, ◌&&◌, ◌≢◌, AllByRecursion, length-set, cases_Bool, nat_tests, LwpData}
use Rattle.proc_table.proofs.CommonNames.{first_lwp, ProcData, process_of, traces, Rows, is_process, add_process, next_tracee, next_child, IsRow, InOwnBlock, Named, InOwnersBlock, TableInvariant}
use Rattle.proc_table.proofs.CommonNames.{put_process, set_process, drop_process}
use Rattle.proc_table.proofs.Every.{every_both, every_weaken, every_map, every_filter, every_found, every_untested, some_and}
use Rattle.proc_table.proofs.Rows.{process_of-pid, row_found, found_row, process_of-map, is_process-map, process_of-without, put_process-pid}
use Rattle.proc_table.proofs.Rising.{Rise-map, Rise-filter, Lacks, Lacks-from_any}
use Rattle.proc_table.proofs.Placed.{every_placed, process_of-placed, is_process-placed, Rise-placed}
use Rattle.proc_table.proofs.Cursors.{InBlock-after, cursors-set}

pub Named-more : (rows rows' : Rows) → ((n : ℕ) → IsRow rows n → IsRow rows' n) → (p : ProcData) → Named rows p → Named rows' p
Named-more rows rows' more p h = grind (arith, nat_tests)

module _ (new : ProcData) (rows : Rows) (kept : TableInvariant rows)
    (there : IsSomeAnd (process_of new.pid rows.processes) (λ was. was.uid ≡ new.uid)) (named : Named rows new) where
  still : (n : ℕ) → IsRow rows n → IsRow (set_process new rows) n
  still n row = is_process-map (put_process new) (put_process-pid new) n rows.processes ∙ row

  home : InOwnBlock new
  home = search (rules, some_and, every_found, process_of-pid)

  put : (P : ProcData → Type 0) → P new → (p : ProcData) → P p → P (put_process new p)
  put P its p h = elim (cases_Bool (nat_eq p.pid new.pid)) [ inl e ↦ rw e its | inr e ↦ rw e h ]

  in_owners_block : (l : LwpData) → InOwnersBlock rows l → InOwnersBlock (set_process new rows) l
  in_owners_block l h = grind (arith, nat_tests, process_of-map (put_process new) (put_process-pid new) l.pid rows.processes, put_process-pid new, some_and, process_of-pid)

  pub keeps_set_process : TableInvariant (set_process new rows)
  keeps_set_process =
      let homes = every_map InOwnBlock InOwnBlock (put_process new) (put InOwnBlock home) rows.processes kept.in_own_blocks in
      let names = every_map (Named rows) (Named (set_process new rows)) (put_process new)
      (λ p h. put (Named (set_process new rows)) (Named-more rows (set_process new rows) still new named) p (Named-more rows (set_process new rows) still p h)) rows.processes kept.named in
      let owners = every_weaken (InOwnersBlock rows) (InOwnersBlock (set_process new rows)) in_owners_block rows.lwps kept.in_owners_block in
      grind (arith, nat_tests, kept, Rise-map (put_process new) (put_process-pid new) rows.processes kept.rising)

module _ (pid : ℕ) (rows : Rows) (kept : TableInvariant rows)
    (tracees : next_tracee pid 0 rows.processes ≡ None) (children : next_child pid 0 rows.processes ≡ None) (lwps : first_lwp pid rows.lwps ≡ None) where
  left : (n : ℕ) → n ≢ pid → IsRow rows n → IsRow (drop_process pid rows) n
  left n apart row = grind (arith, nat_tests, row_found n rows.processes row, found_row n, process_of-without pid n apart rows.processes)

  -- a row that names another process than this one
  abbrev Apart : ProcData → Type 0
  Apart p = ((ltb 0 p.pid && traces pid p) ≡ false) × ((ltb 0 p.pid && nat_eq p.parent pid) ≡ false)

  apart : AllByRecursion Apart rows.processes
  apart = search (rules, every_both, every_untested)

  names_others : (p : ProcData) → (Named rows p × InOwnBlock p) × Apart p → Named (drop_process pid rows) p
  names_others p h = grind (arith, nat_tests, left)

  still_housed : (l : LwpData) → InOwnersBlock rows l × (nat_eq l.pid pid ≡ false) → InOwnersBlock (drop_process pid rows) l
  still_housed l h = grind (arith, nat_tests, process_of-without pid l.pid)

  pub keeps-drop_process : TableInvariant (drop_process pid rows)
  keeps-drop_process =
      let homes = every_filter InOwnBlock InOwnBlock (λ p. not (nat_eq p.pid pid)) (λ p e h. h) rows.processes kept.in_own_blocks in
      let names = every_filter (λ p. (Named rows p × InOwnBlock p) × Apart p) (Named (drop_process pid rows)) (λ p. not (nat_eq p.pid pid)) (λ p e h. names_others p h) rows.processes
      (every_both (λ p. Named rows p × InOwnBlock p) Apart rows.processes (every_both (Named rows) InOwnBlock rows.processes kept.named kept.in_own_blocks) apart) in
      let owners = every_weaken (λ l. InOwnersBlock rows l × (nat_eq l.pid pid ≡ false)) (InOwnersBlock (drop_process pid rows)) still_housed rows.lwps
      (every_both (InOwnersBlock rows) (λ l. nat_eq l.pid pid ≡ false) rows.lwps kept.in_owners_block (every_untested (λ l. nat_eq l.pid pid) rows.lwps lwps)) in
      grind (arith, nat_tests, kept, Rise-filter (λ p. not (nat_eq p.pid pid)) rows.processes kept.rising)

module _ (new : ProcData) (rows : Rows) (kept : TableInvariant rows) (fresh : is_process rows new.pid ≡ false) (home : InOwnBlock new) (named : Named rows new) where
  lacks : Lacks new.pid rows.processes
  lacks = Lacks-from_any new.pid rows.processes fresh

  more : (n : ℕ) → IsRow rows n → IsRow (add_process new rows) n
  more n row = is_process-placed new n rows.processes row kept.rising lacks

  housed_more : (l : LwpData) → InOwnersBlock rows l → InOwnersBlock (add_process new rows) l
  housed_more l h = grind (arith, nat_tests, apart, found_row, process_of-placed, lacks)

  pub keeps-add_process : TableInvariant (add_process new rows)
  keeps-add_process = search (rules, Rise-placed, lacks, every_placed, home, Named-more, more, every_weaken, in_owners_block, housed_more, length-set, cursors-set, InBlock-after)
