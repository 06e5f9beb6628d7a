-- A sound host with one more process and its first LWP, or with one more LWP, is sound.
use Rattle.trace_rows.proofs.CommonNames.{◌≡◌, ◌≢◌, ℕ, ◌+◌, ◌<◌, ◌≤◌, List, [], ◌∷◌, ◌++◌, Bool, true, false, cond, ◌==◌, ◌&&◌, Some, None, IfSome, refl, sym, ap, ◌∙◌, arith, subst, length-set, rules, count_by, nat_tests, AllByRecursion}
use Rattle.trace_rows.proofs.CommonNames.{list_any, slot, pid_block, tid_block, InBlock, cursor_after, shows, PL_FLAG_EXITED, LwpData, Differ, ProcData, is_live, reporting, process_of, placed, Rows, owns, is_process, is_lwp, add_process}
use Rattle.trace_rows.proofs.CommonNames.{add_lwp, process_count, lwp_count_of, InOwnBlock, InOwnersBlock, tracer_in, tracer_of, names_own, IsLiveOf, Linked, FitProcess, waited_for, Standing, FitLwp, WithOwner, IsSound, InBlock-after}
use Rattle.trace_rows.proofs.CommonNames.{cursors-set, process_of-pid, Lacks-from_any}
use Rattle.std.proofs.lemmas.List.Folds.{list_any-append}
use Rattle.proc_table.proofs.Lwps.{LacksLwp-from_any, Differ-push}
use Rattle.trace_rows.proofs.Every.{count-append, count_same}
use Rattle.trace_rows.proofs.Placed.{any-placed, count-placed, process_of-other, process_of-placed, TracesNone, meets_other, meets_new}
use Rattle.proc_table.proofs.Placed.{Rise-placed, every_placed}
use Rattle.trace_rows.proofs.CommonLemmas.{not_same, All-imply, All-both, All-append, find_some, find_passes, any_holds, none_of, any_more, count-cons, If_more}

-- a new process with its first LWP, whose user has room for both
pub record Born (rows : Rows) (p : ProcData) (l : LwpData) : Type 0 where
  pub home : InOwnBlock p
  pub free : is_process rows p.pid ≡ false
  pub tid : InBlock (tid_block p.uid) l.tid
  pub new : is_lwp rows l.tid ≡ false
  pub own : l.pid ≡ p.pid
  pub processes : process_count p.uid rows < 250
  pub lwps : lwp_count_of p.uid rows < 1000
  pub live : is_live p ≡ true
  pub quiet : reporting p ≡ None
  pub tracer : IfSome p.tracer (IsLiveOf rows p.uid)
  pub parent : p.parent ≢ 1 → IsLiveOf rows p.uid p.parent
  pub here : shows l.flags PL_FLAG_EXITED ≡ false
  pub waits : waited_for l.mode ≡ None
  pub fits : FitProcess p
  pub fit_lwp : FitLwp p l

-- numbers

pub differ_new : (rows : Rows) (l : LwpData) → Differ rows.lwps → is_lwp rows l.tid ≡ false → Differ (rows.lwps ++ (l ∷ []))
differ_new rows l all new = Differ-push rows.lwps l all (LacksLwp-from_any l.tid rows.lwps new)

-- What is asked of the rows, with one LWP more

pub count_last : {X : Type 0} (q : X → Bool) (xs : List X) (x : X) → count_by q (xs ++ (x ∷ [])) ≡ count_by q xs + cond (q x) 1 0
count_last q xs x = grind (arith, count-append q xs (x ∷ []), count-cons q x [])

pub count_more : {X : Type 0} (q : X → Bool) (xs : List X) (x : X) → count_by q xs ≤ count_by q (xs ++ (x ∷ []))
count_more q xs x = omega (arith, count_last q xs x)

pub any_last : {X : Type 0} (q : X → Bool) (xs : List X) (x : X) → list_any q xs ≡ true → list_any q (xs ++ (x ∷ [])) ≡ true
any_last q xs x is = list_any-append q xs (x ∷ []) ∙ rw is refl

-- The processes that rows name, in rows in which no process is p

pub named_other : (rows : Rows) (n : ℕ) → is_process rows n ≡ false → (u m : ℕ) → IsLiveOf rows u m → m ≢ n
named_other rows n free u m live same = any_holds _ _ _ (λ p other is. grind (arith, nat_tests, other, is, same)) rows.processes (none_of _ rows.processes free) live

-- with one more, perhaps of a user who has room for it, there are not too many
pub still_few : (count : ℕ → ℕ) (v u most all : ℕ) (mine : Bool) → all ≡ count u + cond mine 1 0 → ((v == u) ≡ false → mine ≡ false) → count v < most → count u ≤ most → all ≤ most
still_few count v u most all mine is other room few = grind (arith, nat_tests, is, other, room, few)

module _ (rows : Rows) (p : ProcData) (l : LwpData) (s : IsSound rows) (b : Born rows p l) where
  abbrev ps : List ProcData
  ps = rows.processes

  abbrev made : Rows
  made = add_lwp p.uid l (add_process p rows)

  more : (t : ProcData → Bool) → list_any t ps ≡ true → list_any t (placed p ps) ≡ true
  more t is = grind (arith, is, any-placed p ps s.stands.rising b.free t)

  same_tracer : (n : ℕ) → n ≢ p.pid → tracer_of (placed p ps) n ≡ tracer_of ps n
  same_tracer n ne = ap tracer_in (process_of-other p ps s.stands.rising b.free n ne)

  none : TracesNone ps p.pid
  none m t is = let free = b.free in let all = s.stands.linked in search (rules, named_other, find_some)

  linked_old : (q : ProcData) → (q.pid ≢ p.pid) × Linked rows q → Linked made q
  linked_old q h = record {
    tracer = If_more (IsLiveOf rows q.uid) (IsLiveOf made q.uid) (λ n is. more _ is) q.tracer h.1.tracer;
    parent = λ ne. more _ (h.1.parent ne);
    other = h.1.other;
    chain = meets_other ps (placed p ps) p.pid same_tracer none 250 q.pid q.pid h.0 ∙ h.1.chain;
    named = If_more _ (λ tid. names_own made q tid ≡ true) (λ tid is. any_last _ rows.lwps l is) (reporting q) h.1.named;
    peopled = λ live. omega (arith, h.1.peopled live, count_more (λ k. k.pid == q.pid) rows.lwps l);
  }

  linked_new : Linked made p
  linked_new = record {
    tracer = If_more (IsLiveOf rows p.uid) (IsLiveOf made p.uid) (λ n is. more _ is) p.tracer b.tracer;
    parent = λ ne. more _ (b.parent ne);
    other = λ same. grind (arith, named_other rows p.pid b.free p.uid p.parent, b.parent, b.home.block, b.home.user, same);
    chain = meets_new ps (placed p ps) p.pid same_tracer none p.tracer (ap tracer_in (process_of-placed p ps s.stands.rising b.free)) (If_more _ _ (named_other rows p.pid b.free p.uid) p.tracer b.tracer) 250;
    named = rw b.quiet tt;
    peopled = λ live. grind (arith, nat_tests, count_last (λ k. k.pid == p.pid) rows.lwps l, b.own);
  }

  apart : AllByRecursion (λ k. k.pid ≢ p.pid) rows.lwps
  apart = All-imply _ _ (λ k home same. grind (arith, nat_tests, find_passes (λ q. q.pid == k.pid) (λ q. q.pid == p.pid) ps home.0 home.1, process_of-pid k.pid home.0 ps home.1, b.free, same)) rows.lwps s.stands.in_owners_block

  owner_old : (k : LwpData) → k.pid ≢ p.pid → process_of k.pid (placed p ps) ≡ process_of k.pid ps
  owner_old k ne = process_of-other p ps s.stands.rising b.free k.pid ne

  owner_new : process_of l.pid (placed p ps) ≡ Some p
  owner_new = rw b.own (process_of-placed p ps s.stands.rising b.free)

  the_owner : (q : ProcData) → process_of l.pid (placed p ps) ≡ Some q → p ≡ q
  the_owner q is = cc (owner_new)

  owns_new : (u : ℕ) → p.uid ≢ u → owns u l.pid (placed p ps) ≡ false
  owns_new u ne = grind (arith, nat_tests, any-placed p ps s.stands.rising b.free (λ q. (q.pid == l.pid) && (q.uid == u)), any_more {X = ProcData} (λ q. (q.pid == l.pid) && (q.uid == u)) (λ q. q.pid == p.pid), b.own, b.free, ne)

  lwps_of : (u : ℕ) → lwp_count_of u made ≡ lwp_count_of u rows + cond (owns u l.pid (placed p ps)) 1 0
  lwps_of u = omega (arith, count_last (λ k. owns u k.pid (placed p ps)) rows.lwps l, count_same (λ k. owns u k.pid (placed p ps)) (λ k. owns u k.pid ps) rows.lwps (All-imply _ _ (λ k ne. grind (arith, nat_tests, any-placed p ps s.stands.rising b.free (λ q. (q.pid == k.pid) && (q.uid == u)), ne)) rows.lwps apart))

  pub born_sound : IsSound made
  born_sound = record {
    stands = record {
      rising = Rise-placed p ps s.stands.rising (Lacks-from_any p.pid ps b.free);
      differ = differ_new rows l s.stands.differ b.new;
      in_own_blocks = every_placed InOwnBlock p ps b.home s.stands.in_own_blocks;
      in_owners_block = All-append (InOwnersBlock made) rows.lwps (l ∷ []) (All-imply _ _ (λ k h. (h.1.0, owner_old k h.0 ∙ h.1.1, h.1.2)) rows.lwps (All-both _ _ rows.lwps apart s.stands.in_owners_block)) ((p, owner_new, b.tid), tt);
      pid_slots = length-set rows.pid_cursors (slot p.uid) _ ∙ s.stands.pid_slots;
      tid_slots = length-set rows.tid_cursors (slot p.uid) _ ∙ s.stands.tid_slots;
      pid_cursors = cursors-set pid_block rows.pid_cursors p.uid (cursor_after (pid_block p.uid) p.pid) b.home.user s.stands.pid_slots (InBlock-after (pid_block p.uid) p.pid b.home.block (omega arith)) s.stands.pid_cursors;
      tid_cursors = cursors-set tid_block rows.tid_cursors p.uid (cursor_after (tid_block p.uid) l.tid) b.home.user s.stands.tid_slots (InBlock-after (tid_block p.uid) l.tid b.tid (omega arith)) s.stands.tid_cursors;
      few_processes = λ u user. still_few (λ w. process_count w rows) p.uid u 250 _ (p.uid == u) (omega (arith, count-placed p ps s.stands.rising b.free (λ q. q.uid == u))) (λ e. e) b.processes (s.stands.few_processes u user);
      few_lwps = λ u user. still_few (λ w. lwp_count_of w rows) p.uid u 1000 _ (owns u l.pid (placed p ps)) (lwps_of u) (λ e. owns_new u (not_same p.uid u e)) b.lwps (s.stands.few_lwps u user);
      linked = every_placed (Linked made) p ps linked_new (All-imply _ _ linked_old ps (All-both (λ q. q.pid ≢ p.pid) _ ps (All-imply _ _ (λ q is. grind (arith, nat_tests, is)) ps (none_of _ ps b.free)) s.stands.linked));
      standing = All-append (WithOwner made (Standing made)) rows.lwps (l ∷ []) (All-imply (λ k. (k.pid ≢ p.pid) × WithOwner rows (Standing rows) k) _
          (λ k h q at. grind (arith, h.1 q, owner_old k h.0, at, count_more (λ j. j.pid == q.pid) rows.lwps l, more)) rows.lwps (All-both _ _ rows.lwps apart s.stands.standing)) ((λ q at. grind (arith, the_owner q at, b.live, b.here, b.waits)), tt);
    };
    processes = every_placed FitProcess p ps b.fits s.processes;
    lwps = All-append (WithOwner made FitLwp) rows.lwps (l ∷ []) (All-imply (λ k. (k.pid ≢ p.pid) × WithOwner rows FitLwp k) (WithOwner made FitLwp) (λ k h q at. h.1 q (sym (owner_old k h.0) ∙ at)) rows.lwps (All-both _ (WithOwner rows FitLwp) rows.lwps apart s.lwps)) ((λ q at. subst (λ r. FitLwp r l) (the_owner q at) b.fit_lwp), tt);
  }
