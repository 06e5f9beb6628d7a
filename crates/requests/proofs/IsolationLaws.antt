-- A step of a host, compared with the same step without any other user; the laws of isolation.
use Rattle.requests.proofs.CommonNames.{◌≡◌, ◌≢◌, ℕ, List, [], ◌∷◌, filter, true, ◌==◌, ◌&&◌, not, Option, Some, None, IfSome, refl, sym, ap, ap₂, ◌∙◌, arith, subst, eq-eqb, get_or, IsUser, nat_tests}
use Rattle.requests.proofs.CommonNames.{pid_block, tid_block, slot, ProcData, LwpData, is_live, is_run, of_user, Rows, owns, visible_process, Settings, PlainStep, Machine, Installed, installed_by}
use Rattle.requests.proofs.CommonNames.{is_live_at, after, turn, checked, step, GoodProc, LiveOwner, Closed, Debugger, Apart, reply_of, host_after, replies_to, Users, KeepsApart, Alone, OneStep}
use Rattle.requests.proofs.CommonNames.{OtherStep, TwoLists, OwnRun, own_replies, own_view, filter_only, filter-all, All-where, every, Kept, Sim, own, own_lwp, not_own, either, owns_block, lwps_seen}
use Rattle.requests.proofs.CommonNames.{find_passes, AllByRecursion, choose_both, All-imply, step_of}
use Rattle.requests.specs.Run.{last, replies, asked_by}
use Rattle.step_types.specs.Plain.{UserStep}
use Rattle.requests.specs.View.{View, view, with_view, alone}
use Rattle.requests.proofs.IsolationOfNewRows.{answered, owns_same}
use Rattle.requests.proofs.IsolationOfTurns.{turn_same}
use Rattle.requests.proofs.IsolationOfSteps.{seen_same, seen_some, spawn_same}
use Rattle.requests.proofs.PerStep.{by_step, calls_same}
use Rattle.requests.proofs.IsolationOfHosts.{live_other, after_same, at_own, Twin, Stepped}
pub use Rattle.requests.proofs.IsolationOfHosts.{live_only, at_slot}

-- A step of any user

seen_live : (u n : ℕ) (rows : Rows) (p : ProcData) → visible_process u n rows ≡ Some p → is_live p ≡ true → is_live_at p.pid rows ≡ true
seen_live u n rows p is live = find_passes (λ q. (q.pid == n) && (q.uid == u)) (λ q. (q.pid == p.pid) && is_live q) rows.processes p is (rw (eq-eqb p.pid p.pid refl, live) refl)

checked_same : {u : ℕ} {m k : Machine} → IsUser u → Apart m → Twin u m k → (s : PlainStep) (n : ℕ) (o : Option ProcData) → visible_process u n m.rows ≡ o → IfSome o (λ p. GoodProc p × (p.uid ≡ u) × (p.pid ≡ n)) → Stepped u m (checked u s o m) (checked u s o k)
checked_same user apart t s n None is g = after_same user apart t _ _ (answered t.rows _)
checked_same {u} {m} {k} user apart t s n (Some p) is g = choose_both (Stepped u m) (not (is_live p)) _ _ _ _ (λ b. after_same user apart t _ _ (answered t.rows _)) (λ b.
    choose_both (Stepped u m) (not (is_run p)) _ _ _ _ (λ d. after_same user apart t _ _ (answered t.rows _)) (λ d. calls_same user apart t s p g.0 g.1 (seen_live u n m.rows p is (grind (arith, b)))))

called_same : {u : ℕ} {m k : Machine} → IsUser u → Apart m → Twin u m k → (s : PlainStep) (n : ℕ) → Stepped u m (checked u s (visible_process u n m.rows) m) (checked u s (visible_process u n k.rows) k)
called_same {u} {m} {k} user apart t s n = subst (λ o. Stepped u m (checked u s (visible_process u n m.rows) m) (checked u s o k)) (seen_same t.rows n) (checked_same user apart t s n (visible_process u n m.rows) refl (seen_some t.rows n))

pub step_same : {u : ℕ} {m k : Machine} → IsUser u → Apart m → Twin u m k → (s : PlainStep) → Stepped u m (step u s m) (step u s k)
step_same {u} {m} {k} user apart t s = by_step (λ s. Stepped u m (step u s m) (step u s k)) (after_same user apart t _ _ (spawn_same t.rows))
    (λ tid a. subst (λ z. Stepped u m (after m (turn m.settings u tid a m.rows)) (after k (turn z u tid a k.rows))) t.settings (after_same user apart t _ _ (turn_same t.rows m.settings tid a)))
    (λ s n by. subst (λ o. Stepped u m (step_of u s m o) (step_of u s k o)) (sym by) (called_same user apart t s n)) s

-- The host in which no other user has made a step

pub twin : (u : ℕ) (m : Machine) → IsUser u → Apart m → Twin u m (alone u m)
twin u m user apart = record {
  rows = record {
    kept = record { closed = closed; processes = λ w ne. refl; lwps = λ w ne. refl; pid_cursor = λ w other ne. refl; tid_cursor = λ w other ne. refl };
    processes = refl;
    lwps = sym (lwps_seen u m.rows closed.processes closed.in_owners_block);
    pid_cursor = sym (at_own u (get_or m.rows.pid_cursors (slot u) 0) (λ w. (pid_block w).first) 0 user);
    tid_cursor = sym (at_own u (get_or m.rows.tid_cursors (slot u) 0) (λ w. (tid_block w).first) 0 user);
    pid_slots = refl;
    tid_slots = refl;
  };
  installed = sym (at_own u (installed_by u m) (λ w. []) [] user);
  settings = refl;
  slots = refl;
}
  where
    closed : Closed u m.rows
    closed = apart.rows u user

-- Views

abbrev made : List ProcData → List LwpData → ℕ → ℕ → List Installed → Settings → View
made ps ls a c is x = record { processes = ps; lwps = ls; pid_cursor = a; tid_cursor = c; installed = is; settings = x }

view_of_parts : {ps qs : List ProcData} {ls ks : List LwpData} {a b c d : ℕ} {is js : List Installed} {x y : Settings} → ps ≡ qs → ls ≡ ks → a ≡ b → c ≡ d → is ≡ js → x ≡ y
    → made ps ls a c is x ≡ made qs ks b d js y
view_of_parts p l a c i s = rw (p, l, a, c, i, s) refl

-- two hosts: one is what u sees of the other
seen_twin : (u : ℕ) (start : Rows) (a b : Machine) → Sim u start a.rows b.rows → installed_by u a ≡ installed_by u b → a.settings ≡ b.settings → view u a ≡ view u b
seen_twin u start a b s pairs settings = view_of_parts
    (sym (filter_only (own u) (own u) (λ p. Unit {0}) (λ p g is. is) a.rows.processes (every a.rows.processes)) ∙ ap (of_user u) s.processes)
    (lwps ∙ s.lwps ∙ sym (filter-all (λ l. owns u l.pid b.rows.processes) (λ l. owns u l.pid b.rows.processes ≡ true) (λ l is. is) b.rows.lwps
    (subst (AllByRecursion (λ l. owns u l.pid b.rows.processes ≡ true)) s.lwps (All-where (own_lwp u) (LiveOwner a.rows.processes) (λ l. owns u l.pid b.rows.processes ≡ true)
    (λ l house is. sym (owns_same s l.pid) ∙ owns_block u a.rows.processes s.kept.closed.processes l house ∙ is) a.rows.lwps s.kept.closed.in_owners_block))))
    s.pid_cursor s.tid_cursor pairs settings
  where
    lwps : filter (λ l. owns u l.pid a.rows.processes) a.rows.lwps ≡ filter (own_lwp u) a.rows.lwps
    lwps = lwps_seen u a.rows s.kept.closed.processes s.kept.closed.in_owners_block

pub seen_alone : (m : Machine) (u : ℕ) → IsUser u → Apart m → view u (alone u m) ≡ view u m
seen_alone m u user apart = let t = twin u m user apart in sym (seen_twin u m.rows m (alone u m) t.rows t.installed t.settings)

pub alone_law : Alone
alone_law m u s user apart = let both = (step_same user apart (twin u m user apart) s) in (both.reply, (seen_twin u m.rows (step u s m).machine (step u s (alone u m)).machine both.rows both.installed both.settings))

pub one_step : OneStep
one_step m k u s user am ak same =
    let a = alone_law m u s user am in
    let b = alone_law k u s user ak in
    (a.0 ∙ ap (λ v. reply_of u s (with_view u v)) same ∙ sym b.0, a.1 ∙ ap (λ v. view u (host_after u s (with_view u v))) same ∙ sym b.1)

pub keeps_apart : KeepsApart
keeps_apart m u s user apart = record {
  rows = λ w other. either w u (λ is. subst (λ x. Closed x (step u s m).machine.rows) (sym is) k.closed) (λ ne. closed w other ne);
  slots = both.slots;
  installed = λ w other. either w u (λ is. subst (λ x. AllByRecursion (Debugger x (step u s m).machine.rows) (installed_by x (step u s m).machine)) (sym is) both.mine) (λ ne.
      subst (AllByRecursion (Debugger w (step u s m).machine.rows)) (sym (both.others w other ne))
      (All-imply (Debugger w m.rows) (Debugger w (step u s m).machine.rows) (λ i g. (g.0, live_other k (apart.rows w other).processes w i.debugger ne g.0 ∙ g.1)) (installed_by w m) (apart.installed w other)));
}
  where
    both : Stepped u m (step u s m) (step u s (alone u m))
    both = step_same user apart (twin u m user apart) s

    k : Kept u m.rows (step u s m).machine.rows
    k = both.rows.kept

    closed : (w : ℕ) → IsUser w → w ≢ u → Closed w (step u s m).machine.rows
    closed w other ne = grind (arith, nat_tests, apart.rows w other, k.closed, k.pid_cursor w other ne, k.tid_cursor w other ne, other)

pub other_step : OtherStep
other_step m u w s user other ne apart = view_of_parts
    (k.processes u ne)
    (let later = after_apart.rows u user in let now = apart.rows u user in lwps_seen u (step w s m).machine.rows later.processes later.in_owners_block ∙ k.lwps u ne ∙ sym (lwps_seen u m.rows now.processes now.in_owners_block))
    (k.pid_cursor u user ne) (k.tid_cursor u user ne) (both.others u user ne) both.unset
  where
    both : Stepped w m (step w s m) (step w s (alone w m))
    both = step_same other apart (twin w m other apart) s

    k : Kept w m.rows (step w s m).machine.rows
    k = both.rows.kept

    after_apart : Apart (step w s m).machine
    after_apart = keeps_apart m w s other apart

-- Lists of steps

pub run_is : (xs : List UserStep) (m : Machine) (u : ℕ) → IsUser u → Users xs → Apart m
    → (replies_to u xs (replies xs m) ≡ own_replies u (asked_by u xs) (view u m)) × (view u (last xs m) ≡ own_view u (asked_by u xs) (view u m))
run_is [] m u user all apart = (refl, refl)
run_is (x ∷ xs) m u user all apart = grind (arith, nat_tests, run_is xs (host_after x.uid x.step m) u user all.1 (keeps_apart m x.uid x.step all.0 apart), either, alone_law m u x.step user apart, eq-eqb, ap₂, other_step, not_own)

pub own_run : OwnRun
own_run m u xs user all apart = run_is xs m u user all apart

pub two_lists : TwoLists
two_lists m k u xs ys user all each am ak same asks = grind (arith, nat_tests, run_is xs m u user all am, run_is ys k u user each ak)
