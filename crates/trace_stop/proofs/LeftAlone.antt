-- Tracees detached one after another.
use Rattle.trace_stop.proofs.CommonNames.{lost_at, ◌≡◌, ℕ, ◌<◌, Bool, true, false, ◌&&◌, ◌==◌, if◌then◌else◌, Option, Some, refl, sym, ap, ◌∙◌, arith, count_by, option_map, nat_tests, option_and_then, LwpData, ProcData}
use Rattle.trace_stop.proofs.CommonNames.{process_of, is_live, traces, Rows, by_owner, is_numbered, Rise, reported, untraced, untraced_lwp, detached, left_alone, lost_signals, MidStepInvariant, is_live_at, traces_live}
use Rattle.trace_stop.proofs.CommonNames.{spares, IsLiveTracee, All-imply, All-any, any_more, none_of, find_passes, exists, any_edited, count_edited, each_same, each_twice, the_row, live_row, notified-none}
use Rattle.trace_stop.proofs.CommonNames.{process_of-pid}
use Rattle.trace_rows.proofs.CommonNames.{tracer_in}
use Rattle.trace_stop.proofs.LeafEnd.{count_fewer}

abbrev pub left_row : (ProcData → Bool) → (ProcData → ℕ) → ProcData → Option ProcData
left_row chosen lost r = Some (if chosen r then untraced (lost r) r else r)

abbrev pub left_lwp : (ProcData → Bool) → (ProcData → ℕ) → ProcData → LwpData → Option LwpData
left_lwp chosen lost r l = if chosen r then option_map (untraced_lwp (lost r) r) (reported r l) else Some l

-- one process's set may be given separately
pub left_by : (rows rows' : Rows) (n c : ℕ) → Rise rows.processes → is_live_at n rows ≡ true → c ≡ lost_at (process_of n rows.processes) → rows' ≡ detached (is_numbered n) (λ r. c) rows
    → rows' ≡ detached (is_numbered n) lost_signals rows
left_by rows rows' n c rise live lost made =
    let row = live_row rows n rise live in
    let is = lost ∙ ap lost_at row.1 in
    made ∙ each_same (left_row (is_numbered n) (λ r. c)) (left_row (is_numbered n) lost_signals) (left_lwp (is_numbered n) (λ r. c)) (left_lwp (is_numbered n) lost_signals) rows
    (All-imply (λ r. r.pid ≡ n → r ≡ row.0) _ (λ r one. (grind (arith, nat_tests, one, is), λ l. grind (arith, nat_tests, one, is))) rows.processes (the_row n rows.processes row.0 rise row.1))

-- the live tracees of q
abbrev pub is_tracee : ℕ → ProcData → Bool
is_tracee q r = is_live r && traces q r

module _ (q : ℕ) (rows rows' : Rows) (s : MidStepInvariant rows) (t : ℕ) (is : IsLiveTracee q rows t) (made : rows' ≡ detached (is_numbered t) lost_signals rows) where
  row : (r : ProcData) × (process_of t rows.processes ≡ Some r) × (is_live r ≡ true)
  row = live_row rows t s.rising is.live

  traced : is_tracee q row.0 ≡ true
  traced = let live = row.2 in let link = ap tracer_in (sym row.1) ∙ is.link in grind (arith, nat_tests, live, link)

  abbrev edit : ProcData → Option ProcData
  edit = left_row (is_numbered t) lost_signals

  row_twice : (r : ProcData) → (r.pid ≡ t → is_tracee q r ≡ true) → option_and_then (left_row (is_tracee q) lost_signals) (edit r) ≡ left_row (is_tracee q) lost_signals r
  row_twice r h = grind (arith, nat_tests, h)

  lwp_twice : (r : ProcData) → (r.pid ≡ t → is_tracee q r ≡ true) → (l : LwpData)
      → option_and_then (λ k. by_owner (left_lwp (is_tracee q) lost_signals) k (edit r)) (left_lwp (is_numbered t) lost_signals r l) ≡ left_lwp (is_tracee q) lost_signals r l
  lwp_twice r h l = grind (arith, nat_tests, h)

  -- it is no tracee any more, and the others are left to detach
  pub left_same : left_alone spares q rows' ≡ left_alone spares q rows
  left_same =
      ap (left_alone spares q) made
      ∙ each_twice edit (left_row (is_tracee q) lost_signals) (left_lwp (is_numbered t) lost_signals) (left_lwp (is_tracee q) lost_signals) rows s.rising (λ r. grind arith) (λ r l. grind (arith, nat_tests))
      ∙ each_same _ (left_row (is_tracee q) lost_signals) _ (left_lwp (is_tracee q) lost_signals) rows
      (All-imply (λ r. r.pid ≡ t → r ≡ row.0) _ (λ r one. let tracee = λ (same : r.pid ≡ t). ap (is_tracee q) (one same) ∙ traced in (row_twice r tracee, lwp_twice r tracee)) rows.processes (the_row t rows.processes row.0 s.rising row.1))

  pub left_fewer : count_by (is_tracee q) rows'.processes < count_by (is_tracee q) rows.processes
  left_fewer = rw (made, count_edited edit (is_tracee q) rows.processes) (count_fewer (λ r. exists (is_tracee q) (edit r)) (is_tracee q) rows.processes (All-any _ (λ r h. grind (arith, nat_tests, h)) rows.processes)
      (find_passes (λ r. r.pid == t) _ rows.processes row.0 row.1 (grind (arith, nat_tests, traced, process_of-pid t row.0 rows.processes row.1))))

  pub left_lives : (n : ℕ) → is_live_at n rows ≡ true → is_live_at n rows' ≡ true
  left_lives n live = ap (is_live_at n) made ∙ any_edited edit (λ r. (r.pid == n) && is_live r) rows.processes ∙ any_more (λ r. (r.pid == n) && is_live r) _ (λ r h. grind (arith, nat_tests, h)) rows.processes live

-- with no live tracee, nothing is left to detach
pub left_none : (q : ℕ) (rows : Rows) → traces_live q rows ≡ false → left_alone spares q rows ≡ rows
left_none q rows none =
    each_same (left_row (is_tracee q) lost_signals) (λ r. Some r) (left_lwp (is_tracee q) lost_signals) (λ r l. Some l) rows
    (All-imply (λ r. is_tracee q r ≡ false) _ (λ r e. (rw e refl, λ l. rw e refl)) rows.processes (none_of (is_tracee q) rows.processes none))
    ∙ notified-none rows

pub ruleset leaving = (left_none, left_same, left_lives)
