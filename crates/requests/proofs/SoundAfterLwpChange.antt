-- An LWP that changes its mode, that is made, or that exits keeps rows sound.
use Rattle.requests.proofs.CommonNames.{◌≡◌, inl, ℕ, ◌≤◌, Bool, true, false, ◌==◌, leb, if◌then◌else◌, List, [], ◌∷◌, ◌++◌, find, Option, Some, None, IfSome, refl, sym, subst, arith, eqb-true, eq-eqb}
use Rattle.requests.proofs.CommonNames.{rules, leb-false, IsUser, PL_FLAG_EXITED, shows, LwpData, Mode, born, lwp_of, ProcData, reporting, Rows, owner, by_owner, each, change_lwp, remove_lwp, add_lwp}
use Rattle.requests.proofs.CommonNames.{lwp_count, InOwnBlock, Settings, StopInfo, stop, is_due, mode_fits, IsLiveChild, FitProcess, waited_for, FitLwp, IsSound, and_left, by_bool, find_some, choose}
use Rattle.requests.proofs.CommonNames.{some_is, one_gone, Row, Beside, Same, Like, Stay, KeptRow, KeptLwp, nobody, holds_sound, sound_holds, row_is, like_self, kept_row, kept_all, kept_lwp}
use Rattle.requests.proofs.CommonNames.{none_gone, no_ring, stay_where, edit_holds, lwps_alone, own_lwps, zero_apart, Outcome, due_stop, in_mode, due_at_birth, exits_lwp, nat_tests, Due, find-append}
use Rattle.trace_rows.proofs.SoundAfterThread.{joined_sound}
use Rattle.requests.proofs.SoundAfterActing.{Acting, its_live, its_quiet, lwp_fit, lwp_stands, acting_lwp, acting_stops}
use Rattle.requests.proofs.RoomForProcess.{LwpRoom}
use Rattle.requests.proofs.SoundAfterSignal.{end_sound}

pub find_more : {X : Type 0} (q : X → Bool) (xs ys : List X) (x : X) → find q xs ≡ Some x → find q (xs ++ ys) ≡ Some x
find_more q xs ys x is = rw (find-append q xs ys, is) refl

module _ (rows : Rows) (p : ProcData) (l : LwpData) (a : Acting rows p l) where
  -- modes, and stops that were due

  pub in_mode_acting : (mode : Mode) → IfSome (waited_for mode) (IsLiveChild rows p) → mode_fits mode ≡ true → Acting (in_mode mode l.tid rows) p (record l { mode = mode })
  in_mode_acting mode waits fits = acting_lwp rows p l a (λ k. record k { mode = mode }) (record { same = λ k. (refl, refl, refl); waits = waits; fit = λ fit. grind (arith, nat_tests) })

  due_shown : (d : Due) (shown : StopInfo) → due_stop d ≡ Some shown → (is_due d ≡ true) × (shows shown.flags PL_FLAG_EXITED ≡ false)
  due_shown d shown is = grind (arith, nat_tests, is)

  pub due_sound : (shown : StopInfo) → due_stop l.due ≡ Some shown → IsSound (stop p.pid l.tid shown (change_lwp l.tid (λ k. record k { due = Due.Nothing }) rows))
  due_sound shown is = acting_stops (change_lwp l.tid (λ k. record k { due = Due.Nothing }) rows) p (record l { due = Due.Nothing }) (acting_lwp rows p l a (λ k. record k { due = Due.Nothing }) (record { same = λ k. (refl, refl, refl); waits = (lwp_stands rows p l a).waits; fit = λ fit. grind (arith, nat_tests) })) shown
      (grind (arith, nat_tests, due_shown l.due shown is, lwp_fit rows p l a)) (grind (arith, nat_tests, due_shown l.due shown is))

  -- if only LWPs of the process go, and one of them stays, or its row is changed, and it reports nothing

  pub its_number : (q : ProcData) → Row rows FitProcess q → (q.pid == p.pid) ≡ true → p ≡ q
  its_number q row is = sym (row_is row a.home (eqb-true q.pid p.pid is))

  -- an LWP of it, which shows nothing
  pub quiet_lwp : {after : Rows} {Q' : ProcData → LwpData → Type 0} (q r : ProcData) (x k : LwpData) → Beside rows FitProcess FitLwp q x → (q.pid == p.pid) ≡ true → k.flags ≡ x.flags → IfSome (waited_for k.mode) (IsLiveChild rows q) → Q' r k → KeptLwp rows after nobody Q' q r k
  quiet_lwp q r x k b mine flags waits fits = grind (arith, nat_tests, its_number, its_quiet)

  -- and its row
  pub quiet_row : {after : Rows} {P' : ProcData → Type 0} (q r : ProcData) → Row rows FitProcess q → (q.pid == p.pid) ≡ true → Like q r → reporting r ≡ reporting q → 1 ≤ lwp_count p.pid after → P' r → KeptRow rows after nobody P' q r
  quiet_row {after} {P'} q r row mine like report some fits = search (rules, kept_row, its_number, its_quiet)

  -- an LWP's exit, if it isn't the last one

  abbrev gone : ProcData → LwpData → Option LwpData
  gone q x = if x.tid == l.tid then None else Some x

  abbrev left : Rows
  left = each (λ q. Some q) gone rows

  same : Same (λ q. Some q) gone
  same = record { process = λ q. (refl, refl); lwp = λ q x. choose (x.tid == l.tid) None (Some x) (λ o. IfSome o (λ k. (k.tid ≡ x.tid) × (k.pid ≡ x.pid))) (λ e. tt) (λ e. (refl, refl)) }

  stays : (q : ProcData) → Row rows FitProcess q → (q.pid == p.pid) ≡ false → Stay rows left q
  stays q row other = stay_where rows (λ r. Some r) gone same (λ x. lwp_of x.tid rows.lwps ≡ Some x) (own_lwps rows.lwps a.sound.stands.differ) q row.at (λ x there own. (
    x,
    rw (by_bool (x.tid == l.tid) (grind (arith, nat_tests, some_is, eqb-true, eq-eqb))) refl,
  ))

  pub removed_sound : 2 ≤ lwp_count p.pid rows → IsSound (remove_lwp l.tid rows)
  removed_sound two = subst IsSound (lwps_alone rows a.sound.stands.in_owners_block (gone p)) (sound_holds left (edit_holds rows nobody (λ q. Some q) gone FitProcess FitLwp FitProcess FitLwp (holds_sound rows a.sound) (record {
    same = same;
    ring = no_ring (λ q. Some q) rows.processes a.sound.stands.rising same.process (λ q t is. is);
    gone = none_gone rows FitProcess gone;
    process = λ q row. choose (q.pid == p.pid) q q (λ r. KeptRow rows left nobody FitProcess q q) (λ mine. quiet_row q q row mine (like_self q) refl some row.fact) (λ other. kept_all row (like_self q) (inl refl) (stays q row other) row.fact);
    lwp = λ q x b on. choose (x.tid == l.tid) None (Some x) (λ o. IfSome o (KeptLwp rows left nobody FitLwp q q)) (λ e. tt)
        (λ e. choose (q.pid == p.pid) q q (λ r. KeptLwp rows left nobody FitLwp q q x) (λ mine. quiet_lwp q q x x b mine refl b.stood.waits b.fact) (λ other. kept_lwp b (stays q b.row other) refl refl b.fact));
  })))
    where
      some : 1 ≤ lwp_count p.pid left
      some =
          let most = one_gone (λ x. x.pid == p.pid) l.tid (λ x. by_owner gone x (owner rows x)) (λ x other own. (x, grind (arith, nat_tests, other), own)) rows.lwps a.sound.stands.differ in
          omega (arith, two, most)

  pub exits_lwp_sound : (settings : Settings) → IsSound (exits_lwp settings p l rows).rows
  exits_lwp_sound settings = choose (leb (lwp_count p.pid rows) 1) _ _ (λ (o : Outcome). IsSound o.rows) (λ e. end_sound rows p l a settings 0 refl) (grind (arith, nat_tests, leb-false, choose, acting_stops, and_left, removed_sound))

  -- a new LWP

  pub joined_acting : (tid : ℕ) → LwpRoom p.uid rows tid → Acting (add_lwp p.uid (born tid p.pid l.blocked (due_at_birth p)) rows) p l
  joined_acting tid room = grind (arith, nat_tests, joined_sound rows p (born tid p.pid l.blocked (due_at_birth p)) a.sound, a, its_live rows p l a, room, lwp_fit rows p l a, zero_apart, find_more (λ k. k.tid == l.tid) rows.lwps (born tid p.pid l.blocked (due_at_birth p) ∷ []) l a.there)

  pub its_user : IsUser p.uid
  its_user = (find_some (λ q. q.pid == p.pid) InOwnBlock rows.processes a.sound.stands.in_own_blocks p a.home).0.user
