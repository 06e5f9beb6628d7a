-- What the rows of a host always satisfy.
use Rattle.std.specs.Prelude.{◌==◌, ◌%◌, ◌&&◌, ◌||◌, ◌∷◌}
use Rattle.trace_rows.specs.CommonNames.{ℕ, Bool, true, false, leb, ltb, not, List, [], Option, is_some, is_none, map, zip, length, bit_and, list_any, list_all, option_map_or, in_block, pid_block}
use Rattle.trace_rows.specs.CommonNames.{tid_block, users, unblockable_set, Call, shows, PL_FLAG_EXITED, LwpData, Mode, InCall, Due, ProcData, State, Zombie, is_live, is_run, is_job, reporting}
use Rattle.trace_rows.specs.CommonNames.{is_this, Rows, owner, process_count, lwp_count_of, lwp_count}
use Rattle.event_masks.specs.declared.Call.TheVariants as call
use Rattle.lwp_table.specs.declared.Due.TheVariants as due
use Rattle.trace_rows.specs.Post.{unwanted}
use Rattle.trace_rows.specs.End.{exists, meets, waited_for}
use Rattle.trace_rows.specs.Limits.{max_processes, max_lwps}

-- whether each number passes the test with all that follow it
abbrev pub pairwise : (ℕ → ℕ → Bool) → List ℕ → Bool
pairwise test [] = true
pairwise test (m ∷ ms) = list_all (test m) ms && pairwise test ms

abbrev pub implies : Bool → Bool → Bool
implies a b = not a || b

-- whether a value, if there is one, passes the test
abbrev pub holds : {X : Type 0} → (X → Bool) → Option X → Bool
holds test o = option_map_or test o true

-- whether an LWP and its process pass the test
abbrev pub of_owner : Rows → (ProcData → LwpData → Bool) → LwpData → Bool
of_owner rows test l = exists (λ p. test p l) (owner rows l)

-- whether a live process of the user has the number
abbrev pub is_live_of : Rows → ℕ → ℕ → Bool
is_live_of rows u n = list_any (λ p. (p.pid == n) && (p.uid == u) && is_live p) rows.processes

-- whether a live process has the number
abbrev pub is_live_at : ℕ → Rows → Bool
is_live_at n rows = list_any (λ r. (r.pid == n) && is_live r) rows.processes

-- whether a live child of p has the number
abbrev pub is_live_child : Rows → ProcData → ℕ → Bool
is_live_child rows p n = list_any (λ q. (q.pid == n) && (q.uid == p.uid) && is_live q && (q.parent == p.pid)) rows.processes

-- the processes' numbers rise, those of LWPs differ, and all are in their owner's block, as are the cursors
abbrev pub sound_numbers : Rows → Bool
sound_numbers rows =
    pairwise ltb (map (λ p. p.pid) rows.processes)
    && pairwise (λ m n. not (n == m)) (map (λ l. l.tid) rows.lwps)
    && list_all (λ p. list_any (λ u. u == p.uid) users && in_block (pid_block p.uid) p.pid) rows.processes
    && list_all (of_owner rows (λ p l. in_block (tid_block p.uid) l.tid)) rows.lwps
    && (length rows.pid_cursors == 64)
    && (length rows.tid_cursors == 64)
    && list_all (λ c. in_block (pid_block c.0) c.1) (zip users rows.pid_cursors)
    && list_all (λ c. in_block (tid_block c.0) c.1) (zip users rows.tid_cursors)

abbrev pub sound_limits : Rows → Bool
sound_limits rows = list_all (λ u. leb (process_count u rows) max_processes && leb (lwp_count_of u rows) max_lwps) users

-- tracers and parents are live processes of the same user, no process is its own parent, and no chain of tracers comes
-- back
abbrev pub sound_link : Rows → ProcData → Bool
sound_link rows p =
    not (p.parent == p.pid) && holds (is_live_of rows p.uid) p.tracer && ((p.parent == 1) || is_live_of rows p.uid p.parent)
    && not (meets max_processes rows.processes p.pid p.pid)

-- LWPs belong to live processes, and each live process has an LWP
abbrev pub sound_owners : Rows → Bool
sound_owners rows =
    list_all (of_owner rows (λ p l. is_live p)) rows.lwps
    && list_all (λ p. implies (is_live p) (leb 1 (lwp_count p.pid rows))) rows.processes

-- whether this is the word of a process's end
abbrev pub is_end : ℕ → Bool
is_end w = ((w % 256 == 0) && ltb w 65536) || (leb 1 w && leb w 31 && not (w == 19))

abbrev pub names_own : Rows → ProcData → ℕ → Bool
names_own rows p tid = list_any (λ l. (l.tid == tid) && (l.pid == p.pid)) rows.lwps

-- what a zombie is: an end, no events, no pending signals, and a tracer or a parent that collects it
abbrev pub is_state : ProcData → State → Bool
is_state p (Zombie w) = is_end w && (p.mask.0 == 0) && (p.pending == 0) && (is_some p.tracer || not (p.parent == 1))
is_state p other = true

-- states fit the rest of the row
abbrev pub sound_state : Rows → ProcData → Bool
sound_state rows p =
    implies (is_some (reporting p)) (is_some p.tracer && exists (names_own rows p) (reporting p))
    && implies (is_job p) (is_none p.tracer)
    && implies p.continued (is_none p.tracer && is_run p)
    && implies (is_none p.tracer) ((p.mask.0 == 0) && (bit_and p.pending (unwanted p) == 0))
    && is_state p p.state

abbrev pub is_due : Due → Bool
is_due due.Nothing = false
is_due other = true

-- an exit status is a byte
abbrev pub status_fits : Call → Bool
status_fits (call.Exit status) = ltb status 256
status_fits other = true

abbrev pub mode_fits : Mode → Bool
mode_fits (InCall call) = status_fits call
mode_fits other = true

-- an LWP fits its process
abbrev pub sound_lwp : Rows → ProcData → LwpData → Bool
sound_lwp rows p l =
    mode_fits l.mode
    && implies (is_none p.tracer)
    (not (is_due l.due) && not l.stepping && not l.suspended && (bit_and l.pending (unwanted p) == 0))
    && implies (not (is_this l.tid (reporting p))) ((l.flags.0 == 0) && (l.child == 0) && (l.code == 0))
    && implies (shows l.flags PL_FLAG_EXITED) (leb 2 (lwp_count p.pid rows))
    && (bit_and l.blocked unblockable_set == 0)
    && holds (is_live_child rows p) (waited_for l.mode)

abbrev pub sound_rows : Rows → Bool
sound_rows rows =
    sound_numbers rows && sound_limits rows && list_all (sound_link rows) rows.processes && sound_owners rows
    && list_all (sound_state rows) rows.processes && list_all (of_owner rows (sound_lwp rows)) rows.lwps
