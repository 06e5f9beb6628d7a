-- An LWP at its turn, in sound rows, and changes of it and of its process; the stops at the entry and the exit of calls.
use Rattle.requests.proofs.CommonNames.{◌≡◌, ℕ, ◌≤◌, true, false, ◌==◌, not, Option, Some, None, IfSome, is_some, sym, ap, ◌∙◌, true≢false, subst, eq-eqb, rules, shows, PL_FLAG_EXITED, LwpData, arith}
use Rattle.requests.proofs.CommonNames.{nat_tests, lwp_of, ProcData, is_live, is_run, reporting, process_of, Rows, change_process, change_lwp, lwp_count, seen_lwp, StopInfo, stop, FitProcess, Standing}
use Rattle.requests.proofs.CommonNames.{FitLwp, WithOwner, IsSound, find_some, choose, find_edit, found_number, changed_own, OneProcess, process_sound, OneLwp, lwp_sound, own_lwps, run_quiet}
use Rattle.requests.proofs.CommonNames.{may_stop, stopped_sound, Reply, stops_or, Bool, ◌*◌, ltb, lt-ltb, ltb-true, EventMask, Call, stop_where, entry_flags, is_end, or_left, zero_apart, trap}
use Rattle.requests.proofs.CommonNames.{exit_stop, option_map}
use Rattle.std.specs.Option.{IsSomeAnd}
use Rattle.event_masks.specs.declared.StopFlags.{StopFlags}

-- a process that isn't untraced is traced
pub traced_where : {X : Type 0} (o : Option X) → (o ≡ None → ⊥) → is_some o ≡ true
traced_where o h = grind (arith, nat_tests, h)

pub record Acting (rows : Rows) (p : ProcData) (l : LwpData) : Type 0 where
  pub sound : IsSound rows
  pub home : process_of p.pid rows.processes ≡ Some p
  pub there : lwp_of l.tid rows.lwps ≡ Some l
  pub own : l.pid ≡ p.pid
  pub run : is_run p ≡ true

-- the LWP that a user sees by its number, with its process
pub seen_acting : (u tid : ℕ) (rows : Rows) (l : LwpData) (p : ProcData) → IsSound rows → seen_lwp u tid rows ≡ Some l → process_of l.pid rows.processes ≡ Some p → is_run p ≡ true → Acting rows p l
seen_acting u tid rows l p s seen at run = search (rules, find_some, own_lwps, found_number)

module _ (rows : Rows) (p : ProcData) (l : LwpData) (a : Acting rows p l) where
  pub owner_is : process_of l.pid rows.processes ≡ Some p
  owner_is = ap (λ n. process_of n rows.processes) a.own ∙ a.home

  pub its_live : is_live p ≡ true
  its_live = ap (λ b. not b) (run_quiet p.state a.run).1

  pub its_quiet : reporting p ≡ None
  its_quiet = (run_quiet p.state a.run).0

  pub its_fit : FitProcess p
  its_fit = (find_some (λ q. q.pid == p.pid) FitProcess rows.processes a.sound.processes p a.home).0

  pub lwp_fit : FitLwp p l
  lwp_fit = (find_some (λ k. k.tid == l.tid) (WithOwner rows FitLwp) rows.lwps a.sound.lwps l a.there).0 p owner_is

  pub lwp_stands : Standing rows p l
  lwp_stands = (find_some (λ k. k.tid == l.tid) (WithOwner rows (Standing rows)) rows.lwps a.sound.stands.standing l a.there).0 p owner_is

  -- the LWP changed, and its process changed
  pub acting_lwp : (g : LwpData → LwpData) → OneLwp rows p l g → Acting (change_lwp l.tid g rows) p (g l)
  acting_lwp g c = search (rules, lwp_sound, owner_is, find_edit, choose, eq-eqb)

  pub acting_process : (f : ProcData → ProcData) → OneProcess p f → is_run (f p) ≡ true → Acting (change_process p.pid f rows) (f p) l
  acting_process f c run = grind (arith, nat_tests, process_sound rows p.pid p f a.sound a.home c, changed_own p f rows.processes (λ q. (c.same q).0) a.home, c.same p, a, run)

  pub acting_stops : (shown : StopInfo) → is_some p.tracer ≡ true → (shows shown.flags PL_FLAG_EXITED ≡ true → 2 ≤ lwp_count p.pid rows) → IsSound (stop p.pid l.tid shown rows)
  acting_stops shown traced exits = stopped_sound rows p.pid l.tid shown p l a.home a.there (may_stop rows p.pid l.tid shown p a.sound a.home a.run traced (subst (λ o. IsSomeAnd o (λ (k : LwpData). k.pid ≡ p.pid)) (sym a.there) a.own) exits)

-- a stop that may be made: of a traced process, and not of an LWP's exit
pub record MayMake (p : ProcData) (shown : StopInfo) : Type 0 where
  pub traced : is_some p.tracer ≡ true
  pub stays : shows shown.flags PL_FLAG_EXITED ≡ false

pub stops_or_sound : (rows : Rows) (p q : ProcData) (l k : LwpData) (o : Option StopInfo) (r : Reply) → Acting rows q k → q.pid ≡ p.pid → k.tid ≡ l.tid → IfSome o (MayMake q) → IsSound (stops_or o r p l rows).rows
stops_or_sound rows p q l k None r a pid tid may = a.sound
stops_or_sound rows p q l k (Some shown) r a pid tid may = subst (λ n. IsSound (stop n l.tid shown rows)) pid (subst (λ n. IsSound (stop q.pid n shown rows)) tid (acting_stops rows q k a shown may.traced (λ is. absurd (true≢false (sym is ∙ may.stays)))))

-- ---- The stops at the entry and the exit of calls may be made: they are of traced processes.

-- the flags of a stop that may be made
pub record MayShow (p : ProcData) (flags : StopFlags) : Type 0 where
  pub traced : is_some p.tracer ≡ true
  pub stays : shows flags PL_FLAG_EXITED ≡ false

-- whether the LWP is still there after the call
abbrev pub goes_on : Call → Bool
goes_on Call.ThrExit = false
goes_on c = true

module _ (p : ProcData) (fit : FitProcess p) where
  where_may : (event : EventMask) (flags : StopFlags) → (0 == event.0) ≡ false → shows flags PL_FLAG_EXITED ≡ false → IfSome (stop_where p.mask event flags) (MayShow p)
  where_may event flags some stays = search (rules, choose, traced_where, zero_apart)

  -- at the entry
  pub entry_may : (c : Call) → IfSome (option_map (λ flags. trap flags 0 c) (entry_flags p.mask)) (MayMake p)
  entry_may c = search (rules, where_may)

  -- at the exit of calls but thr_exit
  pub exit_may : (c : Call) (child : ℕ) → goes_on c ≡ true → IfSome (exit_stop p c child) (MayMake p)
  exit_may c child on = grind (arith, nat_tests, where_may, choose, traced_where, zero_apart)

-- the same of a row with the same tracer
pub same_may : (p q : ProcData) → q.tracer ≡ p.tracer → (o : Option StopInfo) → IfSome o (MayMake p) → IfSome o (MayMake q)
same_may p q same o may = search (rules)

-- the word of an exit
pub exit_word : (status : ℕ) → ltb status 256 ≡ true → is_end (status * 256) ≡ true
exit_word status byte = search (rules, ltb-true, or_left, eq-eqb, lt-ltb)
