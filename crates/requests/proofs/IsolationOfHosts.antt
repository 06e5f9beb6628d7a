-- The work of a step on a host, compared with the same work without any other user.
use Rattle.requests.proofs.CommonNames.{◌≡◌, ◌≢◌, ℕ, zero, suc, ◌+◌, ◌<◌, List, [], ◌∷◌, filter, map, true, ◌==◌, ◌&&◌, if◌then◌else◌, refl, sym, ap, ◌∙◌, arith, eqb-true, subst, eq-eqb, get_or}
use Rattle.requests.proofs.CommonNames.{nat_tests, ◌++◌, length, leb, set, get_or-set_other, length-set, IsUser, slot, users, rising, pid_owner, ProcData, is_live, of_user, Rows, Reply, Machine}
use Rattle.requests.proofs.CommonNames.{Installed, installed_by, After, is_live_at, after, GoodProc, Debugger, Apart, filter-all, All-where, any_only, filter_same, Kept, Sim, own, is_own, named}
use Rattle.requests.proofs.CommonNames.{AllByRecursion, list_any, choose_both, and_left, All-append, Rule, Outcome, refuses, install, slots_differ, put_at, length-map, Errno, get_or-map}
use Rattle.requests.proofs.IsolationOfNewRows.{answered, Same}

-- the rows are what u sees of m's, and so are the policies and the settings
pub record Twin (u : ℕ) (m k : Machine) : Type 0 where
  pub rows : Sim u m.rows m.rows k.rows
  pub installed : installed_by u m ≡ installed_by u k
  pub settings : m.settings ≡ k.settings
  pub slots : length k.installed ≡ 64

pub record Stepped (u : ℕ) (m : Machine) (a b : After) : Type 0 where
  pub rows : Sim u m.rows a.machine.rows b.machine.rows
  pub reply : a.reply ≡ b.reply
  pub installed : installed_by u a.machine ≡ installed_by u b.machine
  pub mine : AllByRecursion (Debugger u a.machine.rows) (installed_by u a.machine)
  pub others : (w : ℕ) → IsUser w → w ≢ u → installed_by w a.machine ≡ installed_by w m
  pub slots : length a.machine.installed ≡ 64
  pub settings : a.machine.settings ≡ b.machine.settings
  pub unset : a.machine.settings ≡ m.settings

-- whether a number is live depends only on the rows of the number's user
pub live_only : (w n : ℕ) (rows : Rows) → AllByRecursion GoodProc rows.processes → pid_owner n ≡ w → list_any (λ p. (p.pid == n) && is_live p) (of_user w rows.processes) ≡ is_live_at n rows
live_only w n rows all here = any_only (λ p. (p.pid == n) && is_live p) (own w) GoodProc (λ p good is. is_own w p.uid (named here p good (eqb-true p.pid n (and_left (p.pid == n) (is_live p) is)))) rows.processes all

pub live_other : {u : ℕ} {start c : Rows} → Kept u start c → AllByRecursion GoodProc start.processes → (w n : ℕ) → w ≢ u → pid_owner n ≡ w → is_live_at n c ≡ is_live_at n start
live_other {u} {start} {c} k all w n ne here = sym (live_only w n c k.closed.processes here) ∙ ap (list_any (λ p. (p.pid == n) && is_live p)) (k.processes w ne) ∙ live_only w n start all here

live_same : {u : ℕ} {start c v : Rows} → Sim u start c v → (n : ℕ) → pid_owner n ≡ u → is_live_at n c ≡ is_live_at n v
live_same {u} {start} {c} {v} s n here = sym (live_only u n c s.kept.closed.processes here) ∙ ap (list_any (λ p. (p.pid == n) && is_live p)) s.processes

abbrev left_of : Rows → List Installed → List Installed
left_of rows pairs = filter (λ i. is_live_at i.debugger rows) pairs

pub after_same : {u : ℕ} {m k : Machine} → IsUser u → Apart m → Twin u m k → (o p : Outcome) → Same u m.rows o p → Stepped u m (after m o) (after k p)
after_same {u} {m} {k} user apart t o p s = record {
  rows = s.rows;
  reply = s.reply;
  installed = get_or-map (left_of o.rows) m.installed (slot u) []
      ∙ filter_same (λ i. is_live_at i.debugger o.rows) (λ i. is_live_at i.debugger p.rows) (Debugger u m.rows) (λ i g. live_same s.rows i.debugger g.0) (installed_by u m) (apart.installed u user)
      ∙ ap (left_of p.rows) t.installed ∙ sym (get_or-map (left_of p.rows) k.installed (slot u) []);
  mine = subst (AllByRecursion (Debugger u o.rows)) (sym (get_or-map (left_of o.rows) m.installed (slot u) [])) (All-where (λ i. is_live_at i.debugger o.rows) (Debugger u m.rows) (Debugger u o.rows) (λ i g is. (g.0, is)) (installed_by u m) (apart.installed u user));
  others = λ w other ne. get_or-map (left_of o.rows) m.installed (slot w) []
      ∙ filter-all (λ i. is_live_at i.debugger o.rows) (Debugger w m.rows) (λ i g. live_other s.rows.kept (apart.rows w other).processes w i.debugger ne g.0 ∙ g.1) (installed_by w m) (apart.installed w other);
  slots = length-map m.installed (left_of o.rows) ∙ apart.slots;
  settings = t.settings;
  unset = refl;
}

abbrev with_one : ProcData → List Rule → List Installed → List Installed
with_one p policy xs = xs ++ (record { debugger = p.pid; policy = policy } ∷ [])

abbrev put_in : ℕ → List Installed → Machine → After
put_in u xs h = record { machine = record h { installed = set h.installed (slot u) xs }; reply = Reply.Done }

abbrev asked : ℕ → ProcData → List Rule → List Installed → Machine → After
asked u p policy xs h = if leb 64 (length xs) then after h (refuses Errno.EAGAIN h.rows) else put_in u (with_one p policy xs) h

-- an installation
pub install_same : {u : ℕ} {m k : Machine} → IsUser u → Apart m → Twin u m k → (p : ProcData) (policy : List Rule) → pid_owner p.pid ≡ u → is_live_at p.pid m.rows ≡ true → Stepped u m (install u p policy m) (install u p policy k)
install_same {u} {m} {k} user apart t p policy here live = subst (λ xs. Stepped u m (install u p policy m) (asked u p policy xs k)) t.installed (choose_both (Stepped u m) (leb 64 (length (installed_by u m))) _ _ _ _
    (λ full. after_same user apart t _ _ (answered t.rows _))
    (λ room. record {
      rows = t.rows;
      reply = refl;
      installed = put_at u m.installed more [] user apart.slots ∙ sym (put_at u k.installed more [] user t.slots);
      mine = subst (AllByRecursion (Debugger u m.rows)) (sym (put_at u m.installed more [] user apart.slots)) (All-append (Debugger u m.rows) (installed_by u m) (record { debugger = p.pid; policy = policy } ∷ []) (apart.installed u user) ((here, live), tt));
      others = λ w other ne. let differ = slots_differ u w user other ne in rw get_or-set_other refl;
      slots = length-set m.installed (slot u) _ ∙ apart.slots;
      settings = t.settings;
      unset = refl;
    }))
  where
    more : List Installed
    more = with_one p policy (installed_by u m)

-- What each user has at the slot of the user

pub get_or_users : {X : Type 0} (f : ℕ → X) (count n k : ℕ) (d : X) → k < count → get_or (map f (rising count n)) k d ≡ f (n + k)
get_or_users f zero n k d lt = absurd (omega arith)
get_or_users f (suc count) n k d lt = grind (arith, nat_tests, get_or_users f count (n + 1), lt)

pub at_slot : {X : Type 0} (f : ℕ → X) (u : ℕ) (d : X) → IsUser u → get_or (map f users) (slot u) d ≡ f u
at_slot f u d user = get_or_users f 64 1001 (slot u) d (omega arith) ∙ ap f (omega arith)

pub at_own : {X : Type 0} (u : ℕ) (x : X) (f : ℕ → X) (d : X) → IsUser u → get_or (map (λ w. if w == u then x else f w) users) (slot u) d ≡ x
at_own u x f d user = at_slot (λ w. if w == u then x else f w) u d user ∙ rw (eq-eqb u u refl) refl
