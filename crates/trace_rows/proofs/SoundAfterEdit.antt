-- Rows after an edit are as rows must be, if each row keeps its part.
use Rattle.trace_rows.proofs.CommonNames.{lwp_count_of, process_count, IsUser, nat_tests, cases_Bool, option_and_then, AllByRecursion, tid_block, InBlock, shows, PL_FLAG_EXITED, LwpData, lwp_of, ProcData, is_live, reporting, process_of}
use Rattle.trace_rows.proofs.CommonNames.{Rows, owner, by_owner, each, edit_processes, edit_lwps, owns, lwp_count, Rise, InOwnBlock, InOwnersBlock, names_own, IsLiveOf, IsLiveChild, Linked, FitProcess, waited_for, Standing, FitLwp}
use Rattle.trace_rows.proofs.CommonNames.{WithOwner, MidStepInvariant, IsSound, ◌≡◌, ◌⊎◌, inl, inr, ℕ, zero, suc, ◌≤◌, List, filter_map, Bool, true, false, ◌==◌, if◌then◌else◌, Option, Some, None, IfSome, refl, sym, ap, ◌∙◌, arith}
use Rattle.trace_rows.proofs.CommonNames.{true≢false, eqb-true, rules, tracer_of, every_found, process_of-pid}
use Rattle.trace_rows.specs.End.{meets}
use Rattle.trace_rows.proofs.Every.{and_right, by_bool, All-imply, All-both, All-edit, All-any, any_forward}
use Rattle.trace_rows.proofs.Passes.{own_rows, rise_edited, process_edited, filter_map_same}
use Rattle.trace_rows.proofs.Children.{child_test}
use Rattle.trace_rows.proofs.Edited.{If_more, if_from, some_is, if_at, any_edit, count_edit, count_kept, Differ-edit, edited, edit_none, lwps_left}
use Rattle.trace_rows.proofs.Numbers.{own_lwps}

-- rows with sound numbers, limits and links, with a fact of each process, and of each LWP and its process
pub record Holds (P : ProcData → Type 0) (Q : ProcData → LwpData → Type 0) (rows : Rows) : Type 0 where
  pub stands : MidStepInvariant rows
  pub processes : AllByRecursion P rows.processes
  pub lwps : AllByRecursion (WithOwner rows Q) rows.lwps

pub holds_sound : (rows : Rows) → IsSound rows → Holds FitProcess FitLwp rows
holds_sound rows s = record { stands = s.stands; processes = s.processes; lwps = s.lwps }

pub sound_holds : (rows : Rows) → Holds FitProcess FitLwp rows → IsSound rows
sound_holds rows s = record { stands = s.stands; processes = s.processes; lwps = s.lwps }

-- what is known of a process's row, and of one of its LWPs
pub record Row (rows : Rows) (P : ProcData → Type 0) (p : ProcData) : Type 0 where
  pub at : process_of p.pid rows.processes ≡ Some p
  pub home : InOwnBlock p
  pub link : Linked rows p
  pub fact : P p

pub record Beside (rows : Rows) (P : ProcData → Type 0) (Q : ProcData → LwpData → Type 0) (p : ProcData) (l : LwpData) : Type 0 where
  pub at : process_of l.pid rows.processes ≡ Some p
  pub there : lwp_of l.tid rows.lwps ≡ Some l
  pub row : Row rows P p
  pub stood : Standing rows p l
  pub fact : Q p l

pub found_number : (n : ℕ) (ps : List ProcData) (p : ProcData) → process_of n ps ≡ Some p → p.pid ≡ n
found_number n ps p is = process_of-pid n p ps is

-- a number has one row
pub row_is : {rows : Rows} {P : ProcData → Type 0} {n : ℕ} {p q : ProcData} → Row rows P q → process_of n rows.processes ≡ Some p → q.pid ≡ n → q ≡ p
row_is {rows} {P} {n} {p} {q} row at same = some_is q p (sym row.at ∙ (ap (λ m. process_of m rows.processes) same ∙ at))

pub lwp_is : {rows : Rows} {P : ProcData → Type 0} {Q : ProcData → LwpData → Type 0} {n : ℕ} {p : ProcData} {k l : LwpData} → Beside rows P Q p k → lwp_of n rows.lwps ≡ Some l → k.tid ≡ n → k ≡ l
lwp_is {rows} {P} {Q} {n} {p} {k} {l} b at same = some_is k l (sym b.there ∙ (ap (λ m. lwp_of m rows.lwps) same ∙ at))

module _ {P : ProcData → Type 0} {Q : ProcData → LwpData → Type 0} (rows : Rows) (s : Holds P Q rows) where
  pub all_rows : AllByRecursion (Row rows P) rows.processes
  all_rows = All-imply _ _ (λ p h. record { at = h.0; home = h.1.0; link = h.1.1.0; fact = h.1.1.1 }) rows.processes (All-both _ _ rows.processes (own_rows rows.processes s.stands.rising)
      (All-both _ _ rows.processes s.stands.in_own_blocks (All-both _ P rows.processes s.stands.linked s.processes)))

  pub row_at : (n : ℕ) (p : ProcData) → process_of n rows.processes ≡ Some p → Row rows P p
  row_at n p at = every_found (Row rows P) (λ q. q.pid == n) rows.processes p all_rows at

  pub all_lwps : AllByRecursion (WithOwner rows (Beside rows P Q)) rows.lwps
  all_lwps = All-imply (λ l. (lwp_of l.tid rows.lwps ≡ Some l) × (WithOwner rows (Standing rows) l × WithOwner rows Q l)) (WithOwner rows (Beside rows P Q)) (λ l h p at. record { at = at; there = h.0; row = row_at l.pid p at; stood = h.1.0 p at; fact = h.1.1 p at }) rows.lwps
      (All-both _ _ rows.lwps (own_lwps rows.lwps s.stands.differ) (All-both _ (WithOwner rows Q) rows.lwps s.stands.standing s.lwps))

-- Chains, if tracers stay or go

pub meets_less : (ps qs : List ProcData) → ((n t : ℕ) → tracer_of qs n ≡ Some t → tracer_of ps n ≡ Some t) → (links q n : ℕ) → meets links qs q n ≡ true → meets links ps q n ≡ true
unfolding meets
meets_less ps qs h zero q n is = is
meets_less ps qs h (suc links) q n is = grind (arith, nat_tests, meets_less ps qs h links q)

-- the change of the one list into the other closes no ring of tracers
abbrev pub NoNewRing : List ProcData → List ProcData → Type 0
NoNewRing ps qs = (n : ℕ) → meets 250 ps n n ≡ false → meets 250 qs n n ≡ false

-- no process gets a new tracer
abbrev pub Leaves : ProcData → ProcData → Type 0
Leaves p q = (t : ℕ) → q.tracer ≡ Some t → p.tracer ≡ Some t

pub no_ring : (f : ProcData → Option ProcData) (ps : List ProcData) → Rise ps → ((p : ProcData) → IfSome (f p) (λ q. (q.pid ≡ p.pid) × (q.uid ≡ p.uid))) → ((p : ProcData) → IfSome (f p) (Leaves p)) → NoNewRing ps (filter_map f ps)
no_ring f ps rise same leaves n none = by_bool (meets 250 (filter_map f ps) n n) (λ is. true≢false (sym (meets_less ps (filter_map f ps) before 250 n n is) ∙ none))
  where
    before : (m t : ℕ) → tracer_of (filter_map f ps) m ≡ Some t → tracer_of ps m ≡ Some t
    before m t is = grind (arith, process_edited f (λ p. If_more _ (λ q. q.pid ≡ p.pid) (λ q e. e.0) (f p) (same p)) m ps rise, leaves, is)

-- What an edit asks of each row

-- a live process of the user, which doesn't end
abbrev pub LivesOn : Rows → (ℕ → Bool) → ℕ → ℕ → Type 0
LivesOn rows over u n = IsLiveOf rows u n × (over n ≡ false)

-- if no process ends
abbrev pub nobody : ℕ → Bool
nobody n = false

-- what the row p keeps as q
pub record KeptRow (rows after : Rows) (over : ℕ → Bool) (P' : ProcData → Type 0) (p q : ProcData) : Type 0 where
  pub live : is_live p ≡ true → over p.pid ≡ false → is_live q ≡ true
  pub parent : q.parent ≡ (if over p.parent then 1 else p.parent)
  pub tracer : IfSome q.tracer (LivesOn rows over p.uid)
  pub named : IfSome (reporting q) (λ tid. names_own after p tid ≡ true)
  pub peopled : is_live q ≡ true → 1 ≤ lwp_count p.pid after
  pub fits : P' q

-- and when a row may be removed
abbrev pub IfKept : Rows → Rows → (ℕ → Bool) → (ProcData → Type 0) → ProcData → Option ProcData → Type 0
IfKept rows after over P' p None = is_live p ≡ true → over p.pid ≡ true
IfKept rows after over P' p (Some q) = KeptRow rows after over P' p q

-- what an LWP of p keeps as k, if p becomes q
pub record KeptLwp (rows after : Rows) (over : ℕ → Bool) (Q' : ProcData → LwpData → Type 0) (p q : ProcData) (k : LwpData) : Type 0 where
  pub exited : shows k.flags PL_FLAG_EXITED ≡ true → 2 ≤ lwp_count p.pid after
  pub waits : IfSome (waited_for k.mode) (λ c. IsLiveChild rows p c × (over c ≡ false))
  pub fits : Q' q k

-- each row keeps its numbers
pub record Same (f : ProcData → Option ProcData) (g : ProcData → LwpData → Option LwpData) : Type 0 where
  pub process : (p : ProcData) → IfSome (f p) (λ q. (q.pid ≡ p.pid) × (q.uid ≡ p.uid))
  pub lwp : (p : ProcData) (l : LwpData) → IfSome (g p l) (λ k. (k.tid ≡ l.tid) × (k.pid ≡ l.pid))

-- what an edit requires: `over` tests for the numbers of the processes that end, which have no LWP left
pub record Edit (rows : Rows) (over : ℕ → Bool) (f : ProcData → Option ProcData) (g : ProcData → LwpData → Option LwpData) (P : ProcData → Type 0) (Q : ProcData → LwpData → Type 0) (P' : ProcData → Type 0) (Q' : ProcData → LwpData → Type 0) : Type 0 where
  pub same : Same f g
  pub ring : NoNewRing rows.processes (filter_map f rows.processes)
  pub gone : (p : ProcData) (l : LwpData) → Row rows P p → over p.pid ≡ true → g p l ≡ None
  pub process : (p : ProcData) → Row rows P p → IfKept rows (each f g rows) over P' p (f p)
  pub lwp : (p : ProcData) (l : LwpData) → Beside rows P Q p l → over p.pid ≡ false → IfSome (f p) (λ q. IfSome (g p l) (KeptLwp rows (each f g rows) over Q' p q))

-- What most edits keep

-- a process is live or not as before, has its parent, and gets no tracer
pub record Like (p q : ProcData) : Type 0 where
  pub live : is_live q ≡ is_live p
  pub tracer : (q.tracer ≡ p.tracer) ⊎ (q.tracer ≡ None)
  pub parent : q.parent ≡ p.parent

pub like_self : (p : ProcData) → Like p p
like_self p = record { live = refl; tracer = inl refl; parent = refl }

pub leaves : (p q : ProcData) → (q.tracer ≡ p.tracer) ⊎ (q.tracer ≡ None) → Leaves p q
leaves p q h t is = grind (arith, h, is)

-- the LWPs of the process are there, as they were named and counted
pub record Stay (rows after : Rows) (p : ProcData) : Type 0 where
  pub count : lwp_count p.pid rows ≤ lwp_count p.pid after
  pub named : (tid : ℕ) → names_own rows p tid ≡ true → names_own after p tid ≡ true

pub peopled_on : {rows after : Rows} {P : ProcData → Type 0} {p : ProcData} → Row rows P p → Stay rows after p → is_live p ≡ true → 1 ≤ lwp_count p.pid after
peopled_on row stay live = let some = row.link.peopled live in let more = stay.count in omega (arith, some, more)

module _ {rows after : Rows} {P P' : ProcData → Type 0} {p q : ProcData} (row : Row rows P p) (like : Like p q) where
  pub kept_row : IfSome (reporting q) (λ tid. names_own after p tid ≡ true) → (is_live p ≡ true → 1 ≤ lwp_count p.pid after) → P' q → KeptRow rows after nobody P' p q
  kept_row named peopled fits = grind (arith, row.link.tracer, like, named, peopled, fits)

  -- if its LWPs stay, and it reports as before, or nothing
  pub kept_all : (reporting q ≡ reporting p) ⊎ (reporting q ≡ None) → Stay rows after p → P' q → KeptRow rows after nobody P' p q
  kept_all report stay fits = grind (arith, row.link, like, report, stay, peopled_on row stay, fits)

module _ {rows after : Rows} {P : ProcData → Type 0} {Q Q' : ProcData → LwpData → Type 0} {p q : ProcData} {l k : LwpData} (b : Beside rows P Q p l) where
  pub kept_lwp : Stay rows after p → k.flags ≡ l.flags → k.mode ≡ l.mode → Q' q k → KeptLwp rows after nobody Q' p q k
  kept_lwp stay flags mode fits = grind (arith, b.stood, stay, flags, mode, fits)

-- if no process ends
pub none_gone : (rows : Rows) (P : ProcData → Type 0) (g : ProcData → LwpData → Option LwpData) (p : ProcData) (l : LwpData) → Row rows P p → nobody p.pid ≡ true → g p l ≡ None
none_gone rows P g p l row is = absurd (true≢false (sym is))

module _ (rows : Rows) (f : ProcData → Option ProcData) (g : ProcData → LwpData → Option LwpData) (same : Same f g) where
  abbrev after : Rows
  after = each f g rows

  pids : (p : ProcData) → IfSome (f p) (λ q. q.pid ≡ p.pid)
  pids p = If_more _ (λ q. q.pid ≡ p.pid) (λ q e. e.0) (f p) (same.process p)

  pub same_lwp : (l : LwpData) → IfSome (by_owner g l (owner rows l)) (λ k. (k.tid ≡ l.tid) × (k.pid ≡ l.pid))
  same_lwp l = grind (arith, same.lwp)

  pub one_left : (p : ProcData) → process_of p.pid rows.processes ≡ Some p → (l : LwpData) → l.pid ≡ p.pid → (k : LwpData) → g p l ≡ Some k → (k : LwpData) × (by_owner g l (owner rows l) ≡ Some k) × (k.tid ≡ l.tid) × (k.pid ≡ l.pid)
  one_left p at l own k is = search (rules, if_at)

  -- if the LWPs of a process stay, and R holds of each
  pub stay_where : (R : LwpData → Type 0) → AllByRecursion R rows.lwps → (p : ProcData) → process_of p.pid rows.processes ≡ Some p → ((l : LwpData) → R l → l.pid ≡ p.pid → (k : LwpData) × (g p l ≡ Some k)) → Stay rows after p
  stay_where R all p at keeps = search (rules, count_kept, eqb-true, any_forward, and_right, one_left)

  pub stay : (p : ProcData) → process_of p.pid rows.processes ≡ Some p → ((l : LwpData) → (k : LwpData) × (g p l ≡ Some k)) → Stay rows after p
  stay p at keeps = stay_where (λ l. Unit {0}) (All-any (λ l. Unit {0}) (λ l. tt) rows.lwps) p at (λ l u own. keeps l)

module _ (rows : Rows) (over : ℕ → Bool) (f : ProcData → Option ProcData) (g : ProcData → LwpData → Option LwpData) (P : ProcData → Type 0) (Q : ProcData → LwpData → Type 0) (P' : ProcData → Type 0) (Q' : ProcData → LwpData → Type 0)
    (s : Holds P Q rows) (e : Edit rows over f g P Q P' Q') where
  abbrev made : Rows
  made = each f g rows

  -- a live row that isn't over, afterwards
  lasts : (p : ProcData) → Row rows P p → is_live p ≡ true → over p.pid ≡ false → (q : ProcData) × (f p ≡ Some q) × KeptRow rows made over P' p q
  lasts p row live on = grind (arith, e.process p row, live, on)

  pub lives_after : (u n : ℕ) → LivesOn rows over u n → IsLiveOf made u n
  lives_after u n h = any_forward _ _ (Row rows P) f (λ p row is. grind (arith, nat_tests, lasts p row, e.same.process p, h.1, is)) rows.processes (all_rows rows s) h.0

  child_on : (p q : ProcData) → over p.pid ≡ false → (q.pid ≡ p.pid) × (q.uid ≡ p.uid) → (n : ℕ) → IsLiveChild rows p n × (over n ≡ false) → IsLiveChild made q n
  child_on p q own same n h = any_forward (child_test p n) (child_test q n) (Row rows P) f (λ k row is. grind (arith, nat_tests, lasts k row, e.same.process k, own, same, h.1, is)) rows.processes (all_rows rows s) h.0

  linked_row : (p q : ProcData) → Row rows P p → (q.pid ≡ p.pid) × (q.uid ≡ p.uid) → KeptRow rows made over P' p q → Linked made q
  linked_row p q row same kept = record {
    tracer = rw same.1 (If_more _ (IsLiveOf made p.uid) (lives_after p.uid) q.tracer kept.tracer);
    parent = rw (same.1, kept.parent) (λ ne. grind (arith, ne, row.link.parent, lives_after p.uid p.parent));
    other = λ own. grind (arith, own, kept.parent, same.0, row.link.other, row.home.block, row.home.user);
    chain = e.ring q.pid (rw same.0 row.link.chain);
    named = rw same.0 kept.named;
    peopled = rw same.0 kept.peopled;
  }

  pub linked_at : (p q : ProcData) → Row rows P p → f p ≡ Some q → Linked made q
  linked_at p q row is = grind (arith, is, linked_row p q row, e.same.process p, e.process p row)

  -- rows that are left, each by a fact
  each_row : (R : ProcData → Type 0) → ((p q : ProcData) → Row rows P p → (q.pid ≡ p.pid) × (q.uid ≡ p.uid) → KeptRow rows made over P' p q → R q) → AllByRecursion R made.processes
  each_row R to = All-edit f (Row rows P) R (λ p row. grind (arith, e.same.process p, e.process p row, to p)) rows.processes (all_rows rows s)

  -- an LWP that is left, with its process: its block, that it is standing, and its fact
  abbrev Here : LwpData → Type 0
  Here k = (q : ProcData) × (process_of k.pid made.processes ≡ Some q) × InBlock (tid_block q.uid) k.tid × Standing made q k × Q' q k

  stays_here : (l k : LwpData) (p q : ProcData) → Beside rows P Q p l → InBlock (tid_block p.uid) l.tid → over p.pid ≡ false → f p ≡ Some q → is_live q ≡ true → g p l ≡ Some k → Here k
  stays_here l k p q b home on to live is =
      let same = if_at _ (f p) q to (e.same.process p) in
      let numbers = if_at _ (g p l) k is (e.same.lwp p l) in
      let kept = if_at _ (g p l) k is (if_at _ (f p) q to (e.lwp p l b on)) in
      let stood : Standing made q k = record { live = live; exited = rw same.0 kept.exited; waits = If_more _ (IsLiveChild made q) (child_on p q on same) (waited_for k.mode) kept.waits } in
      (q, rw numbers.1 (process_edited f (pids rows f g e.same) l.pid rows.processes s.stands.rising ∙ (ap (option_and_then f) b.at ∙ to)), rw (same.1, numbers.0) home, stood, kept.fits)

  from_owner : (l : LwpData) → InOwnersBlock rows l × WithOwner rows (Beside rows P Q) l → IfSome (by_owner g l (owner rows l)) Here
  from_owner l h =
      let p = h.0.0 in
      let b = h.1 p h.0.1 in
      rw h.0.1 (elim (cases_Bool (over p.pid)) [
        | inl is ↦ rw (e.gone p l b.row is) tt
        | inr is ↦ let q = lasts p b.row b.stood.live is in if_from Here (g p l) (λ k made_of. stays_here l k p q.0 b h.0.2 is q.1 (q.2.live b.stood.live is) made_of)
      ])

  left_lwps : AllByRecursion Here made.lwps
  left_lwps = All-edit _ (λ l. InOwnersBlock rows l × WithOwner rows (Beside rows P Q) l) _ from_owner rows.lwps (All-both _ _ rows.lwps s.stands.in_owners_block (all_lwps rows s))

  owners : (R : ProcData → LwpData → Type 0) → ((q : ProcData) (k : LwpData) → Standing made q k × Q' q k → R q k) → AllByRecursion (WithOwner made R) made.lwps
  owners R to = All-imply _ _ (λ k h r there. let same : h.0 ≡ r = cc in rw (← same) (to h.0 k (h.3, h.4))) made.lwps left_lwps

  pub edit_holds : Holds P' Q' (each f g rows)
  edit_holds =
      let stands = s.stands in
      let rising = rise_edited f (pids rows f g e.same) rows.processes stands.rising in
      let differ = Differ-edit (λ l. by_owner g l (owner rows l)) (λ l. grind (arith, same_lwp rows f g e.same l)) rows.lwps stands.differ in
      let blocks = each_row InOwnBlock (λ p q row same kept. record { user = rw same.1 row.home.user; block = rw (same.0, same.1) row.home.block }) in
      let owners_blocks = All-imply Here (InOwnersBlock made) (λ k h. (h.0, h.1, h.2)) made.lwps left_lwps in
      let few_processes : (u : ℕ) → IsUser u → process_count u made ≤ 250 =
      λ u user. omega (arith, stands.few_processes u user, count_edit (λ p. p.uid == u) (λ p. p.uid == u) f (λ p. grind (arith, nat_tests, e.same.process p)) rows.processes) in
      let few_lwps : (u : ℕ) → IsUser u → lwp_count_of u made ≤ 1000 =
      λ u user. omega (arith, stands.few_lwps u user, count_edit (λ l. owns u l.pid made.processes) (λ l. owns u l.pid rows.processes) (λ l. by_owner g l (owner rows l)) (λ l. If_more _ _ (λ k n is. any_edit _ _ f (λ p. grind (arith, nat_tests, e.same.process p)) rows.processes (rw n.1 at is)) (by_owner g l (owner rows l)) (same_lwp rows f g e.same l)) rows.lwps) in
      let linked = each_row (Linked made) linked_row in
      let standing = owners (Standing made) (λ q k h. h.0) in
      let processes = each_row P' (λ p q row same kept. kept.fits) in
      let lwps = owners Q' (λ q k h. h.1) in
      assumption

-- Edits of only processes, and of only LWPs
pub processes_alone : (f : ProcData → Option ProcData) (rows : Rows) → each f (λ p l. Some l) rows ≡ edit_processes f rows
processes_alone f rows = ap (λ ls. record rows { processes = filter_map f rows.processes; lwps = ls }) (lwps_left rows)

module _ (rows : Rows) (in_own_blocks : AllByRecursion (InOwnersBlock rows) rows.lwps) where
  pub each_alone : (f : ProcData → Option ProcData) (h : LwpData → Option LwpData) → each f (λ p l. h l) rows ≡ edited f h rows
  each_alone f h = ap (λ ls. record rows { processes = filter_map f rows.processes; lwps = ls }) (filter_map_same _ h rows.lwps (All-imply (InOwnersBlock rows) _ (λ l home. ap (by_owner (λ p k. h k) l) home.1) rows.lwps in_own_blocks))

  pub lwps_alone : (h : LwpData → Option LwpData) → each (λ p. Some p) (λ p l. h l) rows ≡ edit_lwps h rows
  lwps_alone h = each_alone (λ p. Some p) h ∙ ap (λ ps. record rows { processes = ps; lwps = filter_map h rows.lwps }) (edit_none (λ p. Some p) (λ p. refl) rows.processes)
