-- Sound rows keep users apart, and what a user sees of them: before a change, after it, and after the end of a process.
use Rattle.trace_rows.proofs.CommonNames.{nat_tests, AllByRecursion, IsUser, LwpData, ProcData, Rows, owns, InOwnBlock, names_own, IsLiveOf, Linked}
use Rattle.trace_rows.proofs.CommonNames.{FitProcess, waited_for, Standing, WithOwner, IsSound, only_of, end}
use Rattle.std.proofs.Common.{◌≡◌, ◌≢◌, ℕ, List, filter, true, ◌==◌, ◌&&◌, sym, ◌∙◌, arith, eqb-true, eq-eqb, rules}
use Rattle.pid_blocks.specs.Blocks.{pid_owner, tid_owner, pid_block, tid_block, InBlock}
use Rattle.proc_table.specs.Kept as kept
use Rattle.step_types.specs.declared.Settings.{Settings}
use Rattle.trace_rows.specs.Closed.{GoodProc, GoodLwp, LiveRow, LiveOwner, Closed}
use Rattle.trace_rows.proofs.Every.{All-imply, All-both, any_holds, find_some}
use Rattle.trace_rows.proofs.Edited.{If_more}
use Rattle.trace_rows.proofs.Children.{child_lives}
use Rattle.trace_rows.proofs.SoundAfterStop.{find_passes}
use Rattle.trace_rows.proofs.FilteredLists.{filter_same}
use Rattle.trace_rows.proofs.IsolationRelation.{Sim, own_lwp, at_number}
use Rattle.trace_rows.proofs.IsolationOfEnds.{end_same}
use Rattle.trace_rows.proofs.SoundAfterEnd.{same_test}

-- Owners of numbers

pub pid_in_block : (u n : ℕ) → IsUser u → InBlock (pid_block u) n → pid_owner n ≡ u
unfolding pid_owner
pid_in_block u n user b = omega arith

pub tid_in_block : (u n : ℕ) → IsUser u → InBlock (tid_block u) n → tid_owner n ≡ u
unfolding tid_owner
tid_in_block u n user b = omega arith

pub owns_owner : (u n : ℕ) (ps : List ProcData) → AllByRecursion GoodProc ps → owns u n ps ≡ true → pid_owner n ≡ u
owns_owner u n ps all is = any_holds _ _ _ (λ p good e. grind (arith, nat_tests, good.block, e)) ps all is

-- the owner of a process is a user
pub owns_user : (u n : ℕ) (ps : List ProcData) → AllByRecursion InOwnBlock ps → owns u n ps ≡ true → IsUser u
owns_user u n ps in_own_blocks is = any_holds _ _ _ (λ p home e. grind (arith, nat_tests, home.user, e)) ps in_own_blocks is

-- an LWP's process is a row of u if its number is in u's block
pub owns_block : (u : ℕ) (ps : List ProcData) → AllByRecursion GoodProc ps → (l : LwpData) → LiveOwner ps l → owns u l.pid ps ≡ own_lwp u l
owns_block u ps all l house = same_test (owns u l.pid ps) (own_lwp u l) (λ e. eq-eqb (pid_owner l.pid) u (owns_owner u l.pid ps all e)) (λ e.
    at_number ps all l.pid (λ o. LiveRow o → owns u l.pid ps ≡ true) (λ no_row. absurd no_row) (λ p is good here live. find_passes (λ q. q.pid == l.pid) (λ q. (q.pid == l.pid) && (q.uid == u)) ps p is (grind (arith, nat_tests, here, good.block, e))) house)

pub lwps_seen : (w : ℕ) (rows : Rows) → AllByRecursion GoodProc rows.processes → AllByRecursion (LiveOwner rows.processes) rows.lwps → filter (λ l. owns w l.pid rows.processes) rows.lwps ≡ filter (own_lwp w) rows.lwps
lwps_seen w rows all in_owners_block = filter_same (λ l. owns w l.pid rows.processes) (own_lwp w) (LiveOwner rows.processes) (λ l house. owns_block w rows.processes all l house) rows.lwps in_owners_block

-- Sound rows

module _ (rows : Rows) (s : IsSound rows) where
  block_of : (p : ProcData) → InOwnBlock p → pid_owner p.pid ≡ p.uid
  block_of p home = pid_in_block p.uid p.pid home.user home.block

  pub live_owner : (u n : ℕ) → IsLiveOf rows u n → pid_owner n ≡ u
  live_owner u n is = any_holds _ _ _ (λ p home e. grind (arith, nat_tests, block_of p home, e)) rows.processes s.stands.in_own_blocks is

  -- an LWP's number is of its process's user
  lwp_owner : (l : LwpData) → kept.InOwnersBlock rows l → tid_owner l.tid ≡ pid_owner l.pid
  lwp_owner l h = search (rules, find_some, tid_in_block, block_of, eqb-true)

  named_owner : (p : ProcData) → InOwnBlock p → (tid : ℕ) → names_own rows p tid ≡ true → tid_owner tid ≡ p.uid
  named_owner p home tid is = any_holds _ _ _ (λ l h e. grind (arith, nat_tests, lwp_owner l h, block_of p home, e)) rows.lwps s.stands.in_owners_block is

  good_row : (p : ProcData) → InOwnBlock p × (Linked rows p × FitProcess p) → GoodProc p
  good_row p h = grind (arith, nat_tests, h, block_of p h.0, live_owner p.uid, named_owner p h.0)

  good_lwp : (l : LwpData) → kept.InOwnersBlock rows l × WithOwner rows (Standing rows) l → GoodLwp l
  good_lwp l h =
      let p = h.0.0 in
      let own : p.uid ≡ pid_owner l.pid = grind (arith, nat_tests, find_some (λ q. q.pid == l.pid) InOwnBlock rows.processes s.stands.in_own_blocks p h.0.1, block_of p) in
      record { block = lwp_owner l h.0; waits = If_more _ _ (λ c is. live_owner p.uid c (child_lives rows p c is) ∙ own) (waited_for l.mode) (h.1 p h.0.1).waits }

  placed_lwps : AllByRecursion (λ l. kept.InOwnersBlock rows l × WithOwner rows (Standing rows) l) rows.lwps
  placed_lwps = All-both _ _ rows.lwps s.stands.in_owners_block s.stands.standing

  pub sound_closed : (u : ℕ) → IsUser u → Closed u rows
  sound_closed u user =
      let stands = s.stands in
      let processes = All-imply (λ p. InOwnBlock p × (Linked rows p × FitProcess p)) GoodProc good_row rows.processes (All-both InOwnBlock _ rows.processes stands.in_own_blocks (All-both (Linked rows) FitProcess rows.processes stands.linked s.processes)) in
      let lwps = All-imply _ GoodLwp good_lwp rows.lwps placed_lwps in
      let owners = All-imply (λ l. kept.InOwnersBlock rows l × WithOwner rows (Standing rows) l) (LiveOwner rows.processes) (λ l h. rw h.0.1 (h.1 h.0.0 h.0.1).live) rows.lwps placed_lwps in
      let pid_cursor = stands.pid_cursors u user in
      let tid_cursor = stands.tid_cursors u user in
      assumption

-- What a user's own rows are

same_rows : (a b : Rows) → a.processes ≡ b.processes → a.lwps ≡ b.lwps → a.pid_cursors ≡ b.pid_cursors → a.tid_cursors ≡ b.tid_cursors → a ≡ b
same_rows a b processes lwps pids tids = grind arith

-- before the change
pub own_start : (u : ℕ) (rows : Rows) → Closed u rows → Sim u rows rows (only_of u rows)
own_start u rows closed = search (rules, closed, lwps_seen)

-- and after it, for the user and for others
pub own_after : {u : ℕ} {start c v : Rows} → Sim u start c v → c.pid_cursors ≡ v.pid_cursors → c.tid_cursors ≡ v.tid_cursors → only_of u c ≡ v
own_after {u} {start} {c} {v} s pids tids = same_rows (only_of u c) v s.processes (lwps_seen u c s.kept.closed.processes s.kept.closed.in_owners_block ∙ s.lwps) pids tids

pub others_after : {u : ℕ} {start c v : Rows} → Closed u start → Sim u start c v → c.pid_cursors ≡ start.pid_cursors → c.tid_cursors ≡ start.tid_cursors → (w : ℕ) → w ≢ u → only_of w c ≡ only_of w start
others_after {u} {start} {c} {v} closed s pids tids w ne = search (rules, same_rows, lwps_seen)

-- an end takes no number
module _ (settings : Settings) (p status : ℕ) (rows : Rows) where
  pub end_pid_cursors : (end settings p status rows).pid_cursors ≡ rows.pid_cursors
  end_pid_cursors = grind arith

  pub end_tid_cursors : (end settings p status rows).tid_cursors ≡ rows.tid_cursors
  end_tid_cursors = grind arith

module _ (settings : Settings) (rows : Rows) (u p status : ℕ) (s : IsSound rows) (is : owns u p rows.processes ≡ true) where
  closed : Closed u rows
  closed = sound_closed rows s u (owns_user u p rows.processes s.stands.in_own_blocks is)

  ends : Sim u rows (end settings p status rows) (end settings p status (only_of u rows))
  ends = end_same (own_start u rows closed) settings p status (owns_owner u p rows.processes closed.processes is)

  pub own_end : only_of u (end settings p status rows) ≡ end settings p status (only_of u rows)
  own_end = own_after ends (end_pid_cursors settings p status rows ∙ sym (end_pid_cursors settings p status (only_of u rows))) (end_tid_cursors settings p status rows ∙ sym (end_tid_cursors settings p status (only_of u rows)))

  pub other_end : (w : ℕ) → w ≢ u → only_of w (end settings p status rows) ≡ only_of w rows
  other_end = others_after closed ends (end_pid_cursors settings p status rows) (end_tid_cursors settings p status rows)
