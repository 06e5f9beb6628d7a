-- The clauses of a step, from what was done to the rows and what was answered; first what it leaves of the policies.
use Rattle.requests.proofs.CommonNames.{ℕ, List, [], ◌∷◌, ◌++◌, set, slot, Rule, Machine, After, installed_by, Reply, ◌≡◌, ◌+◌, ◌<◌, length, map, filter, Bool, true, sym, ap, ◌∙◌, arith, subst}
use Rattle.requests.proofs.CommonNames.{get_or, length-map, IsUser, Rows, PlainStep, Outcome, Installed, is_live_at, after, sound, step, put_at, slots_differ, either, get_or-map, length-set}
use Rattle.requests.proofs.CommonNames.{get_or-set_other, ◌≢◌, Some, None, false, refl, inl, inr, set-get_or, answers, nat_tests, takes_memory, is_refusal, may_want, step_fits, Steps, ProcData, calls}
use Rattle.requests.proofs.CommonNames.{caller_of, le-leb, not, ◌≤◌, if◌then◌else◌, Errno, Step, Attempts, uncalled, installs, outcome_of, step_of}
use Rattle.requests.proofs.CommonNames.{IsCaller, IsCallerByNumber, Barred, may_end}
use Rattle.requests.specs.View.{view}
use Rattle.requests.proofs.SoundWithoutEnded.{slots_of, same_at, all_left, left_live, answers_same, rows_sound}
use Rattle.requests.proofs.IsolationLaws.{other_step}
use Rattle.requests.proofs.SoundHostIsApart.{users_are_apart_in_a_sound_host}
use Rattle.requests.proofs.Outcomes.{Lives}
use Rattle.requests.proofs.SoundAfterCall.{called, is_caller}
use Rattle.step_types.proofs.Replies.{cases_memory, other}
use Rattle.requests.proofs.RefusalsChangeNothing.{no_step_runs_out_of_memory, a_refusal_changes_nothing, step_fair}
use Rattle.requests.proofs.StaysSound.{sound_kept}
use Rattle.requests.proofs.PerStep.{uncalled_after, calls_after}

abbrev pub installed_with : ℕ → ℕ → List Rule → Machine → After
installed_with u debugger policy m = record {
  machine = record m { installed = set m.installed (slot u) (installed_by u m ++ (record { debugger = debugger; policy = policy } ∷ [])) };
  reply = Reply.Done;
}

-- ---- After a step, what ended debuggers had installed goes; only the step's own user can have such.

-- the pairs of a user whose debugger lives in the rows
abbrev pub left_in : Rows → ℕ → Machine → List Installed
left_in rows u m = filter (λ i. is_live_at i.debugger rows) (installed_by u m)

-- the host with other rows, and only the user's pairs of live debuggers
abbrev pub kept_by : ℕ → Rows → Machine → Machine
kept_by u rows m = record m { rows = rows; installed = set m.installed (slot u) (left_in rows u m) }

module _ (m : Machine) (u : ℕ) (user : IsUser u) (is : sound m ≡ true) (s : PlainStep) (o : Outcome) (same : step u s m ≡ after m o) where
  abbrev left : Installed → Bool
  left i = is_live_at i.debugger o.rows

  abbrev was : List (List Installed)
  was = map (filter left) m.installed

  abbrev now : List (List Installed)
  now = set m.installed (slot u) (filter left (installed_by u m))

  at_user : (v : ℕ) → IsUser v → get_or was (slot v) [] ≡ get_or now (slot v) []
  at_user v other = either v u
      (λ me. subst (λ w. get_or was (slot w) [] ≡ get_or now (slot w) []) (sym me) (get_or-map (filter left) m.installed (slot u) [] ∙ sym (put_at u m.installed (filter left (installed_by u m)) [] user (slots_of m is))))
      (λ ne.
      let kept : installed_by v (after m o).machine ≡ installed_by v m = ap (λ x. x.installed) (subst (λ a. view v a.machine ≡ view v m) same (other_step m v u s other user ne (users_are_apart_in_a_sound_host m is))) in
      kept ∙ sym (get_or-set_other m.installed (slot u) (slot v) (filter left (installed_by u m)) [] (slots_differ u v user other ne)))

  at : (k : ℕ) → k < length was → get_or was k [] ≡ get_or now k []
  at k lt =
      let small : k < 64 = omega (arith, lt, (length-map m.installed (filter left)), slots_of m is) in
      subst (λ n. get_or was n [] ≡ get_or now n []) (omega arith) (at_user (k + 1001) (omega arith, omega arith))

  pub drops : (after m o).machine ≡ kept_by u o.rows m
  drops = ap (λ xs. record m { rows = o.rows; installed = xs }) (same_at was now [] ((length-map m.installed (filter left)) ∙ sym (length-set m.installed (slot u) (filter left (installed_by u m)))) at)

-- ---- The clauses of a step, from what was done to the rows and what was answered.

module _ (u : ℕ) (s : PlainStep) (m : Machine) (user : IsUser u) (is : sound m ≡ true) (fits : step_fits s ≡ true) where
  pub from_machine : (n : Machine) (r : Reply) → (r ≢ Reply.Errno Errno.ENOMEM → (n ≡ (step u s m).machine) × (r ≡ (step u s m).reply)) → (r ≡ Reply.Errno Errno.ENOMEM → (n ≡ m) × (may_want u s m ≡ true)) → Steps u s m n r
  from_machine n r machine memory = record {
    machine = machine;
    memory = memory;
    refused = λ refusal. elim (cases_memory r) [
      | inl e ↦ (memory e).0
      | inr e ↦ let did = machine (other r e) in did.0 ∙ a_refusal_changes_nothing u s m user is (subst (λ x. is_refusal x ≡ true) did.1 refusal)
    ];
    sound = elim (cases_memory r) [
      | inl e ↦ subst (λ x. sound x ≡ true) (sym (memory e).0) is
      | inr e ↦ subst (λ x. sound x ≡ true) (sym (machine (other r e)).0) (sound_kept u user s fits m is)
    ];
  }

  -- once the pairs of the user's ended debuggers are gone
  pub finished : (o : Outcome) (rows : Rows) (r : Reply) → step u s m ≡ after m o → Attempts (takes_memory u s m) o m.rows rows r → Steps u s m (kept_by u rows m) r
  finished o rows r same (inl did) = from_machine (kept_by u rows m) r (λ ok. (ap (λ x. kept_by u x m) did.rows ∙ sym (drops m u user is s o same) ∙ sym (ap (λ a. a.machine) same), did.reply ∙ sym (ap (λ a. a.reply) same))) (λ e. absurd (no_step_runs_out_of_memory u s m (ap (λ a. a.reply) same ∙ sym did.reply ∙ e)))
  finished o rows r same (inr did) = from_machine (kept_by u rows m) r (λ plenty. absurd (plenty did.reply))
      (λ e. (
        ap (λ x. kept_by u x m) did.same ∙ ap (λ x. record m { installed = x }) (ap (λ ys. set m.installed (slot u) ys) (all_left m is u user) ∙ set-get_or m.installed (slot u) []),
        rw (did.takes, ap (λ a. is_refusal a.reply) same ∙ did.unrefused) refl,
      ))

  -- which are none if the step ends no process
  pub none_ended : (o : Outcome) (rows : Rows) (r : Reply) → step u s m ≡ after m o → Attempts (takes_memory u s m) o m.rows rows r → may_end s r ≡ false → set m.installed (slot u) (left_in rows u m) ≡ m.installed
  none_ended o rows r same (inl did) none = grind (arith, nat_tests, left_live m is o.rows (subst (λ a. Lives m.rows.processes a.machine.rows.processes) same ((step_fair u s m).lives (subst (λ x. may_end s x ≡ false) (did.reply ∙ sym (ap (λ a. a.reply) same)) none))).at u user, set-get_or m.installed (slot u) [], did)
  none_ended o rows r same (inr did) none = ap (λ x. (kept_by u x m).installed) did.same ∙ ap (λ ys. set m.installed (slot u) ys) (all_left m is u user) ∙ set-get_or m.installed (slot u) []

  -- a refusal before anything was done
  pub refuses_at : (r : Reply) → r ≢ Reply.Errno Errno.ENOMEM → step u s m ≡ after m (answers r m.rows) → Steps u s m m r
  refuses_at r plenty same = from_machine m r (λ ok. (sym (answers_same m r is) ∙ sym (ap (λ a. a.machine) same), sym (ap (λ a. a.reply) same))) (λ e. absurd (plenty e))

  pub wants_at : may_want u s m ≡ true → Steps u s m m (Reply.Errno Errno.ENOMEM)
  wants_at wants = from_machine m (Reply.Errno Errno.ENOMEM) (λ plenty. absurd (plenty refl)) (λ e. (refl, wants))

-- The same of a host's value h, which its user sees as m
module _ {u : ℕ} {h m : Machine} (view : h ≡ m) (user : IsUser u) (kept : sound h ≡ true) where
  seen_kept : sound m ≡ true
  seen_kept = subst (λ x. sound x ≡ true) view kept

  pub host_barred : {n : ℕ} {s : PlainStep} {r : Reply} → step_fits s ≡ true → caller_of s ≡ Some n → Barred u n m r → Steps u s m m r
  host_barred {s = s} {r = r} fits by b = refuses_at u s m user seen_kept fits r b.other (b.answer s by)

  -- a step once what ended debuggers had installed is gone
  module _ (s : PlainStep) (fits : step_fits s ≡ true) {rows : Rows} {left : List (List Installed)} {r : Reply} (keeps : left ≡ (if may_end s r then set h.installed (slot u) (left_in rows u h) else h.installed)) where
    only_left : (o : Outcome) → step u s h ≡ after h o → Attempts (takes_memory u s h) o h.rows rows r → left ≡ set h.installed (slot u) (left_in rows u h)
    only_left o same did = by_end (may_end s r) refl
      where
        by_end : (b : Bool) → may_end s r ≡ b → left ≡ set h.installed (slot u) (left_in rows u h)
        by_end true e = keeps ∙ rw e refl
        by_end false e = keeps ∙ rw e (sym (none_ended u s h user kept fits o rows r same did e))

    pub host_uncalled : caller_of s ≡ None → Attempts (takes_memory u s h) (outcome_of (uncalled u s h)) h.rows rows r → Steps u s h (record h { rows = rows; installed = left }) r
    host_uncalled none did = subst (λ x. Steps u s h (record h { rows = rows; installed = x }) r) (sym (only_left (outcome_of (uncalled u s h)) (ap (step_of u s h) none ∙ uncalled_after u s h) did)) (finished u s h user kept fits (outcome_of (uncalled u s h)) rows r (ap (step_of u s h) none ∙ uncalled_after u s h) did)

    pub host_called : {n : ℕ} {p : ProcData} → IsCallerByNumber u n m.rows p → caller_of s ≡ Some n → installs s ≡ false → Attempts (takes_memory u s h) (outcome_of (calls u s p h)) h.rows rows r → Steps u s h (record h { rows = rows; installed = left }) r
    host_called {n} {p} found by kind did =
        let f : IsCallerByNumber u n h.rows p = subst (λ x. IsCallerByNumber u n x.rows p) (sym view) found in
        (subst (λ x. Steps u s h (record h { rows = rows; installed = x }) r) (sym (only_left (outcome_of (calls u s p h)) (called u n s h by p f.seen f.live f.runs ∙ calls_after u s p h kind) did)) (finished u s h user kept fits (outcome_of (calls u s p h)) rows r (called u n s h by p f.seen f.live f.runs ∙ calls_after u s p h kind) did))

  module _ {n : ℕ} {p : ProcData} (found : IsCallerByNumber u n m.rows p) where
    by_host : IsCallerByNumber u n h.rows p
    by_host = subst (λ x. IsCallerByNumber u n x.rows p) (sym view) found

    pub host_caller : IsCaller u p h.rows
    host_caller = is_caller u n h.rows p (rows_sound h kept).stands.rising by_host

    -- an installation: there is no room for it, it is made, or memory runs out
    module _ (policy : List Rule) where
      pub host_full : 64 ≤ length (installed_by u m) → Steps u (Step.Install n policy) m m (Reply.Errno Errno.EAGAIN)
      host_full many = refuses_at u (Step.Install n policy) m user seen_kept refl (Reply.Errno Errno.EAGAIN) (other (Reply.Errno Errno.EAGAIN) refl)
          (called u n (Step.Install n policy) m refl p found.seen found.live found.runs ∙ rw (le-leb 64 (length (installed_by u m)) many) refl)

      made : length (installed_by u h) < 64 → step u (Step.Install n policy) h ≡ installed_with u p.pid policy h
      made few = called u n (Step.Install n policy) h refl p by_host.seen by_host.live by_host.runs ∙ grind (arith, nat_tests, few)

      pub host_installed : {xs : List (List Installed)} → length (installed_by u h) < 64 → xs ≡ set h.installed (slot u) (installed_by u h ++ (record { debugger = p.pid; policy = policy } ∷ [])) → Steps u (Step.Install n policy) h (record h { installed = xs }) Reply.Done
      host_installed {xs} few done = grind (arith, nat_tests, from_machine u (Step.Install n policy) h user kept refl (record h { installed = xs }) Reply.Done (λ ok. (ap (λ ys. record h { installed = ys }) done ∙ sym (ap (λ a. a.machine) (made few)), sym (ap (λ a. a.reply) (made few)))) (λ e. absurd (other Reply.Done refl e)), other)

      pub host_wants : {xs : List (List Installed)} → length (installed_by u h) < 64 → xs ≡ h.installed → Steps u (Step.Install n policy) h (record h { installed = xs }) (Reply.Errno Errno.ENOMEM)
      host_wants few same = subst (λ xs. Steps u (Step.Install n policy) h (record h { installed = xs }) (Reply.Errno Errno.ENOMEM)) (sym same) (wants_at u (Step.Install n policy) h user kept refl (ap (λ a. not (is_refusal a.reply)) (made few)))
