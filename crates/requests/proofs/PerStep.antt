-- The tables by kinds of steps: a new kind has a line in each. What the work of a kind does is proved in the files that are
-- used here, and what holds of every step in those that use this one.
use Rattle.requests.proofs.CommonNames.{◌≡◌, ℕ, true, Some, refl, ◌∙◌, rules, ProcData, PlainStep, Machine, calls, caller_of, Act, Step, None, List, false, subst, IsUser, Reply, Outcome, after}
use Rattle.requests.proofs.CommonNames.{step_fits, sound, Steps, Rule, bare, with_handler, uncalled, installs, outcome_of, filter, map, ◌==◌, Settings, is_live_at, turn, GoodProc, Apart, own}
use Rattle.requests.proofs.CommonNames.{policies_of, handles, no_options, kill, ptrace, collect, reported, rows_after, negsuc, sigaction, list, wait, room_for_process, spawn, IsCaller, handle}
use Rattle.requests.specs.Making.{Makes}
use Rattle.requests.proofs.SoundWithoutEnded.{rows_sound, after_sound}
use Rattle.step_types.proofs.Replies.{other}
use Rattle.requests.proofs.IsolationOfTurns.{turn_same}
use Rattle.requests.proofs.IsolationOfSteps.{spawn_same, list_same, sigaction_same, wait_same, kill_same, ptrace_same, handle_same}
use Rattle.requests.proofs.SoundAfterSpawn.{spawn_sound}
use Rattle.requests.proofs.SoundAfterCall.{sigaction_rows, wait_rows}
use Rattle.requests.proofs.SoundAfterKill.{kill_rows, installed_sound}
use Rattle.requests.proofs.SoundAfterHandle.{handles_sound}
use Rattle.requests.proofs.SoundAfterRequest.{ptrace_rows}
use Rattle.requests.proofs.SoundAfterTurn.{turn_sound}
use Rattle.requests.proofs.IsolationOfHosts.{after_same, install_same, Twin, Stepped}
use Rattle.requests.proofs.Outcomes.{left, never, turn_fair, ptrace_fair, spawn_fair, sigaction_fair, kill_fair, wait_fair, handle_fair, hosted, install_fair, FairStep}

-- ---- the kinds of steps

-- a spawn, a turn, or a step of a caller
pub by_step : (R : PlainStep → Type 0) → R Step.Spawn → ((tid : ℕ) (a : Act) → R (Step.Turn tid a)) → ((s : PlainStep) (n : ℕ) → caller_of s ≡ Some n → R s) → (s : PlainStep) → R s
by_step R spawns turns calls Step.Spawn = spawns
by_step R spawns turns calls (Step.Turn tid a) = turns tid a
by_step R spawns turns calls s = calls s _ refl

-- ---- installs, and all others

-- a step that isn't an install
pub other_kind : {A : Type 0} (s : Step A) → ((n : ℕ) (own : A) → s ≡ Step.Install n own → ⊥) → installs (bare s) ≡ false
other_kind s none = search (rules, own)

-- it needs no handler
pub made_bare : {A : Type 0} (u : ℕ) (s : Step A) (m n : Machine) (r : Reply) → installs (bare s) ≡ false → Steps u (bare s) m n r → Makes u (with_handler None s) m n (Some r)
made_bare u (Step.Install caller own) m n r other made = absurd (cc)
made_bare u s m n r other made = made

pub steps_made : (u : ℕ) (s : PlainStep) (m n : Machine) (r : Reply) → Makes u (with_handler {B = List Rule} None s) m n (Some r) → Steps u s m n r
steps_made u s m n r h = search (rules, own)

-- it changes the installed policies only as processes end
pub uncalled_after : (u : ℕ) (s : PlainStep) (m : Machine) → uncalled u s m ≡ after m (outcome_of (uncalled u s m))
uncalled_after u (Step.Turn tid a) m = refl
uncalled_after u s m = refl

pub calls_after : (u : ℕ) (s : PlainStep) (p : ProcData) (m : Machine) → installs s ≡ false → calls u s p m ≡ after m (outcome_of (calls u s p m))
calls_after u (Step.Install n policy) p m other = absurd (cc)
calls_after u s p m other = refl

-- ---- the work of a caller's step

-- it keeps a sound host sound
pub calls_sound : (u : ℕ) (s : PlainStep) (p : ProcData) (m : Machine) → IsUser u → step_fits s ≡ true → sound m ≡ true → IsCaller u p m.rows → sound (calls u s p m).machine ≡ true
calls_sound u Step.Spawn p m user fits is c = spawn_sound m u user is
calls_sound u (Step.List n) p m user fits is c = after_sound m (list u m.rows) is (rows_sound m is)
calls_sound u (Step.Sigaction n s d) p m user fits is c = after_sound m (sigaction p s d m.rows) is (sigaction_rows u m.rows p s d (rows_sound m is) c)
calls_sound u (Step.Kill n which s) p m user fits is c = after_sound m (kill m.settings u p.pid which s m.rows) is (kill_rows m.settings u p.pid which s m.rows (rows_sound m is))
calls_sound u (Step.Wait4 n which options) p m user fits is c = after_sound m (wait p which options m.rows) is (wait_rows p which options m.rows (rows_sound m is))
calls_sound u (Step.Install n policy) p m user fits is c = installed_sound m u p policy user is c
calls_sound u (Step.Handle n) p m user fits is c = after_sound m (handle u p m) is (handles_sound m.settings p.pid (policies_of u p m) m.rows (rows_sound m is) (reported p.pid (negsuc 0) no_options m.rows) refl (collect p.pid (negsuc 0) no_options m.rows))
calls_sound u (Step.Ptrace n r target arg) p m user fits is c = after_sound m (ptrace m.settings u p r target arg m.rows) is (ptrace_rows m.settings u p r target arg m.rows (rows_sound m is) c)
calls_sound u (Step.Turn tid a) p m user fits is c = turn_sound m u tid a fits is

-- one that is refused changes nothing, none is out of memory, and it ends none but the processes that it may end
pub calls_fair : (u : ℕ) (s : PlainStep) (p : ProcData) (m : Machine) → FairStep s m (calls u s p m)
calls_fair u Step.Spawn p m = hosted _ m (spawn u m.rows) (spawn_fair u m.rows (room_for_process u m.rows))
calls_fair u (Step.List caller) p m = hosted _ m (list u m.rows) (left never m.rows _ refl)
calls_fair u (Step.Sigaction caller s d) p m = hosted _ m (sigaction p s d m.rows) (sigaction_fair p s d m.rows)
calls_fair u (Step.Kill caller which s) p m = hosted _ m (kill m.settings u p.pid which s m.rows) (kill_fair m.settings u p.pid which s m.rows)
calls_fair u (Step.Wait4 caller which options) p m = hosted _ m (wait p which options m.rows) (wait_fair p which options m.rows)
calls_fair u (Step.Install caller policy) p m = install_fair u caller p policy m
calls_fair u (Step.Handle caller) p m = hosted _ m (handle u p m) (handle_fair m.settings (policies_of u p m) p.pid m.rows)
calls_fair u (Step.Ptrace caller r target arg) p m = hosted _ m (ptrace m.settings u p r target arg m.rows) (ptrace_fair m.settings u p r target arg m.rows)
calls_fair u (Step.Turn tid a) p m = hosted _ m (turn m.settings u tid a m.rows) (turn_fair m.settings u tid a m.rows)

-- it does the same on what its user sees of the host
pub calls_same : {u : ℕ} {m k : Machine} → IsUser u → Apart m → Twin u m k → (s : PlainStep) (p : ProcData) → GoodProc p → p.uid ≡ u → is_live_at p.pid m.rows ≡ true → Stepped u m (calls u s p m) (calls u s p k)
calls_same user apart t Step.Spawn p good mine live = after_same user apart t _ _ (spawn_same t.rows)
calls_same user apart t (Step.List caller) p good mine live = after_same user apart t _ _ (list_same t.rows)
calls_same user apart t (Step.Sigaction caller sig d) p good mine live = after_same user apart t _ _ (sigaction_same t.rows p sig d (good.block ∙ mine))
calls_same {u} {m} {k} user apart t (Step.Kill caller which sig) p good mine live = subst (λ z. Stepped u m (calls u (Step.Kill caller which sig) p m) (after k (kill z u p.pid which sig k.rows))) t.settings (after_same user apart t _ _ (kill_same t.rows m.settings p.pid which sig))
calls_same user apart t (Step.Wait4 caller which options) p good mine live = after_same user apart t _ _ (wait_same t.rows p which options (good.block ∙ mine))
calls_same user apart t (Step.Install caller policy) p good mine live = install_same user apart t p policy (good.block ∙ mine) live
calls_same {u} {m} {k} user apart t (Step.Handle caller) p good mine live =
    subst (λ z. Stepped u m (calls u (Step.Handle caller) p m) (after k (at z (policies_of u p k)))) t.settings
    (subst (λ xs. Stepped u m (calls u (Step.Handle caller) p m) (after k (at m.settings (map (λ i. i.policy) (filter (λ i. i.debugger == p.pid) xs))))) t.installed
    (after_same user apart t _ _ (handle_same t.rows m.settings (policies_of u p m) p.pid (good.block ∙ mine))))
  where
    at : Settings → List (List Rule) → Outcome
    at z policies = handles z policies k.rows (rows_after p.pid (negsuc 0) no_options k.rows) (reported p.pid (negsuc 0) no_options k.rows) (collect p.pid (negsuc 0) no_options k.rows)
calls_same {u} {m} {k} user apart t (Step.Ptrace caller r target arg) p good mine live = subst (λ z. Stepped u m (calls u (Step.Ptrace caller r target arg) p m) (after k (ptrace z u p r target arg k.rows))) t.settings (after_same user apart t _ _ (ptrace_same t.rows m.settings p r target arg good mine))
calls_same {u} {m} {k} user apart t (Step.Turn tid a) p good mine live = subst (λ z. Stepped u m (calls u (Step.Turn tid a) p m) (after k (turn z u tid a k.rows))) t.settings (after_same user apart t _ _ (turn_same t.rows m.settings tid a))
