-- A wait among all rows, and among one user's own rows.
use Rattle.wait4.proofs.CommonNames.{arith, ◌≡◌, ◌≢◌, ℕ, ℤ, true, Option, sym, rules, pid_owner, ProcData, Rows, owns, only_of, IsSound, Closed, Sim, owns_owner, owns_user, sound_closed, own_start}
use Rattle.wait4.proofs.CommonNames.{own_after, others_after, Options, reported, collect, without_report, rows_after, ReportedOwn, CollectOwn, AfterOwn, AfterOthers}
use Rattle.wait4.proofs.IsolationOfReports.{reported_same, collect_same, rows_after_same}

-- collecting takes no number
pid_cursors_left : (caller : ℕ) (o : Option ProcData) (rows : Rows) → (without_report caller o rows).pid_cursors ≡ rows.pid_cursors
pid_cursors_left caller o rows = grind arith

tid_cursors_left : (caller : ℕ) (o : Option ProcData) (rows : Rows) → (without_report caller o rows).tid_cursors ≡ rows.tid_cursors
tid_cursors_left caller o rows = grind arith

module _ (rows : Rows) (u caller : ℕ) (which : ℤ) (options : Options) (s : IsSound rows) (is : owns u caller rows.processes ≡ true) where
  closed : Closed u rows
  closed = sound_closed rows s u (owns_user u caller rows.processes s.stands.in_own_blocks is)

  here : pid_owner caller ≡ u
  here = owns_owner u caller rows.processes closed.processes is

  start : Sim u rows rows (only_of u rows)
  start = own_start u rows closed

  after : Sim u rows (rows_after caller which options rows) (rows_after caller which options (only_of u rows))
  after = rows_after_same start caller which options here

  reported_is : reported caller which options (only_of u rows) ≡ reported caller which options rows
  reported_is = sym (reported_same start caller which options here)

  collect_is : collect caller which options (only_of u rows) ≡ collect caller which options rows
  collect_is = sym (collect_same start caller which options here)

  after_is : only_of u (rows_after caller which options rows) ≡ rows_after caller which options (only_of u rows)
  after_is = search (rules, own_after, after, pid_cursors_left, tid_cursors_left)

  others_are : (w : ℕ) → w ≢ u → only_of w (rows_after caller which options rows) ≡ only_of w rows
  others_are = others_after closed after (pid_cursors_left caller (reported caller which options rows) rows) (tid_cursors_left caller (reported caller which options rows) rows)

pub own_reported : ReportedOwn
own_reported = reported_is

pub own_collect : CollectOwn
own_collect = collect_is

pub own_after_wait : AfterOwn
own_after_wait = after_is

pub others_after_wait : AfterOthers
others_after_wait rows u w caller which options s is = others_are rows u caller which options s is w
