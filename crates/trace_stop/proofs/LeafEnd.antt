-- The end of a process without live tracees: only it ends.
use Rattle.trace_stop.proofs.CommonNames.{or-false, ◌≡◌, ◌≢◌, ℕ, zero, suc, List, [], ◌∷◌, filter_map, Bool, true, false, not, ◌&&◌, ◌==◌, if◌then◌else◌, Option, Some, IfSome, refl, sym, ap, ◌∙◌, arith, rules, eqb-true}
use Rattle.trace_stop.proofs.CommonNames.{subst, ◌<◌, count_by, true≢false, fun_ext, nat_tests, AllByRecursion, list_any, ProcData, process_of, is_live, is_live_at, traces, Rows, Rise, each, untraced, notified}
use Rattle.trace_stop.proofs.CommonNames.{lost_signals, end, end_each, end_of, is_live_of, Linked, MidStepInvariant, meets, is_doomed, dooms, notifies_of, traces_live, end_alone, LeafEnd, DetachedEnd, LeafEndsNoOther}
use Rattle.trace_stop.proofs.CommonNames.{LeafEndLeavesFewer, kills, spares, and_left, All-imply, All-both, All-any, any_holds, any_more, none_of, find_some, count-cons, count_more, live_named, live_found, any_by_number}
use Rattle.trace_stop.proofs.CommonNames.{listed, meets-suc, meets-zero, exists, filter_map_same, any_same, any_edited, count_edited, each_same, own_rows, If_more}
use Rattle.step_types.specs.declared.Settings.{Settings}
use Rattle.trace_rows.specs.End.{process_after, lwp_after, left_alone}
use Rattle.trace_stop.proofs.Told.{any_but, heard, notified_row, fallen, turned, turned_lwp, told, told_by, tells, told-is, end_turned, turned_keeps}
use Rattle.trace_stop.proofs.EndsTwice.{alone}

-- a row names live processes, and is no live tracee of q
pub record Fits (alive : ℕ → Bool) (q : ℕ) (r : ProcData) : Type 0 where
  pub lives : is_live r ≡ alive r.pid
  pub tracer : IfSome r.tracer (λ t. alive t ≡ true)
  pub parent : r.parent ≢ 1 → alive r.parent ≡ true
  pub free : is_live r ≡ true → traces q r ≡ false

pub live_of : (rows : Rows) → Rise rows.processes → (u n : ℕ) → is_live_of rows u n ≡ true → is_live_at n rows ≡ true
live_of rows rise u n is = let k = live_named rows rise u n is in live_found rows n k.row k.found k.live

pub sound_fits : (rows : Rows) (q : ℕ) → MidStepInvariant rows → traces_live q rows ≡ false → AllByRecursion (Fits (λ n. is_live_at n rows) q) rows.processes
sound_fits rows q s leaf =
    All-imply (λ r. ((process_of r.pid rows.processes ≡ Some r) × Linked rows r) × ((is_live r && traces q r) ≡ false)) (Fits (λ n. is_live_at n rows) q)
    (λ r h. record {
      lives = sym (any_by_number is_live r.pid rows.processes s.rising ∙ ap (exists is_live) h.0.0);
      tracer = If_more _ _ (live_of rows s.rising r.uid) r.tracer h.0.1.tracer;
      parent = λ other. live_of rows s.rising r.uid r.parent (h.0.1.parent other);
      free = λ live. rw live at h.1;
    })
    rows.processes (All-both _ _ rows.processes (All-both _ (Linked rows) rows.processes (own_rows rows.processes s.rising) s.linked) (none_of _ rows.processes leaf))

-- whom a row notifies is live and doesn't end
told_fits : (alive over : ℕ → Bool) (q x : ℕ) (r : ProcData) → Fits alive q r → tells over x r ≡ true → (over x ≡ false) × (alive x ≡ true)
unfolding tells told_by
told_fits alive over q x r h is = let t = h.tracer in let p = h.parent in grind (arith, nat_tests, is, t, p)

pub told_alive : (alive over : ℕ → Bool) (q p status : ℕ) (rows : Rows) → AllByRecursion (Fits alive q) rows.processes → (x : ℕ) → told over p status rows x ≡ true → (over x ≡ false) × (alive x ≡ true)
told_alive alive over q p status rows all x is = any_holds (tells over x) (Fits alive q) _ (told_fits alive over q x) rows.processes all (sym (told-is over p status rows x) ∙ is)

-- no chain of a live process leads to q
meets_none : (alive : ℕ → Bool) (ps : List ProcData) (q : ℕ) → AllByRecursion (Fits alive q) ps → (k n : ℕ) → alive n ≡ true → meets k ps q n ≡ false
meets_none alive ps q all zero n live = meets-zero ps q n
meets_none alive ps q all (suc k) n live = search (rules, meets_none alive ps q all k, meets-suc, find_some, eqb-true)

-- Ends by tests that agree on the rows

pub end_each_same : (ends ends' : ProcData → Bool) (over over' : ℕ → Bool) (p status : ℕ) (rows : Rows)
    → AllByRecursion (λ r. ends r ≡ ends' r) rows.processes → ((n : ℕ) → over n ≡ over' n) → end_each ends over p status rows ≡ end_each ends' over' p status rows
end_each_same ends ends' over over' p status rows all same =
    ap (λ (ns : List ℕ). notified ns (each (process_after ends over p status) (lwp_after ends over) rows))
    (filter_map_same (notifies_of ends over p status) (notifies_of ends' over p status) rows.processes (All-imply (λ r. ends r ≡ ends' r) _ (λ r e. rw e refl) rows.processes all))
    ∙ ap (notified (filter_map (notifies_of ends' over p status) rows.processes))
    (each_same (process_after ends over p status) (process_after ends' over p status) (lwp_after ends over) (lwp_after ends' over) rows
    (All-imply (λ r. ends r ≡ ends' r) _ (λ r e. (rw e refl, λ l. rw e refl)) rows.processes all))
    ∙ ap (λ (d : ℕ → Bool). end_each ends' d p status rows) (fun_ext same)

-- the numbers that end if only q does
one_number : (t : ProcData → Bool) (q n : ℕ) (ps : List ProcData) → AllByRecursion (λ r. t r ≡ (r.pid == q)) ps → list_any (λ r. (r.pid == n) && t r) ps ≡ (list_any (λ r. r.pid == q) ps && (n == q))
one_number t q n [] all = refl
one_number t q n (r ∷ ps) all = grind (arith, nat_tests, all.0, one_number t q n ps all.1)

q_alone : (settings : Settings) (q status : ℕ) (rows : Rows) → AllByRecursion (λ r. is_doomed settings rows.processes q r ≡ (r.pid == q)) rows.processes → list_any (λ r. r.pid == q) rows.processes ≡ true
    → end_of settings q status rows ≡ end_alone q status rows
q_alone settings q status rows all found = end_each_same (is_doomed settings rows.processes q) (λ r. r.pid == q) (dooms settings rows.processes q) (λ n. n == q) q status rows all
    (λ n. one_number (is_doomed settings rows.processes q) q n rows.processes all ∙ ap (λ b. b && (n == q)) found)

doomed_alone : (alive : ℕ → Bool) (ps : List ProcData) (q : ℕ) → AllByRecursion (Fits alive q) ps → (r : ProcData) → Fits alive q r → is_doomed kills ps q r ≡ (r.pid == q)
doomed_alone alive ps q all r fits = let lives = fits.lives in grind (arith, nat_tests, lives, meets_none alive ps q all 250)

pub is_kills : (settings : Settings) → settings.kill_on_debugger_exit ≡ true → settings ≡ kills
is_kills settings on = ap (λ b. record { kill_on_debugger_exit = b }) on

pub is_spares : (settings : Settings) → settings.kill_on_debugger_exit ≡ false → settings ≡ spares
is_spares settings off = ap (λ b. record { kill_on_debugger_exit = b }) off

pub leaf_end : LeafEnd
leaf_end settings rows q status on s found leaf = rw (is_kills settings on)
    (q_alone kills q status rows (let all = sound_fits rows q s leaf in All-imply _ _ (doomed_alone (λ n. is_live_at n rows) rows.processes q all) rows.processes all) found)

pub any_kept : (t : ProcData → Bool) (f : ProcData → Option ProcData) (ps : List ProcData) → ((r : ProcData) → exists t (f r) ≡ t r) → list_any t (filter_map f ps) ≡ list_any t ps
any_kept t f ps same = any_edited f t ps ∙ any_same (λ r. exists t (f r)) t ps (All-any _ same ps)

pub detached_end : DetachedEnd
detached_end settings rows q status off found = rw (is_spares settings off)
    (q_alone spares q status (left_alone spares q rows) (All-any _ (λ r. or-false (r.pid == q)) (left_alone spares q rows).processes)
    (any_kept (λ r. r.pid == q) (λ r. Some (if is_live r && traces q r then untraced (lost_signals r) r else r)) rows.processes (λ r. grind arith) ∙ found))

-- the end by the settings
pub end_killed : (settings : Settings) (rows rows' : Rows) (p status : ℕ) → settings.kill_on_debugger_exit ≡ true → rows' ≡ end kills p status rows → rows' ≡ end settings p status rows
end_killed settings rows rows' p status on made = rw (is_kills settings on) made

pub end_spared : (settings : Settings) (rows left rows' : Rows) (p status : ℕ) → settings.kill_on_debugger_exit ≡ false → is_live_at p rows ≡ true → left ≡ left_alone spares p rows → rows' ≡ end_alone p status left
    → rows' ≡ end settings p status rows
end_spared settings rows left rows' p status off live made ended = rw (is_spares settings off) (ended ∙ ap (end_alone p status) made ∙ sym (detached_end spares rows p status refl (listed rows p live)))

-- The end of a live process: all others are as live as they were

pub end_alone_told : (alive : ℕ → Bool) (q status : ℕ) (rows : Rows) → AllByRecursion (Fits alive q) rows.processes → alive q ≡ true → end_alone q status rows ≡ end_each (fallen (alone q)) (alone q) q status rows
end_alone_told alive q status rows all here = end_each_same (λ r. r.pid == q) (fallen (alone q)) (λ n. n == q) (alone q) q status rows
    (All-imply (Fits alive q) _ (λ r h. let lives = h.lives in grind (arith, nat_tests, lives, here)) rows.processes all) (λ n. refl)

pub count_fewer : {X : Type 0} (q t : X → Bool) (xs : List X) → AllByRecursion (λ x. q x ≡ true → t x ≡ true) xs → list_any (λ x. t x && not (q x)) xs ≡ true → count_by q xs < count_by t xs
count_fewer q t [] all is = absurd (true≢false (sym is))
count_fewer q t (x ∷ xs) all is = grind (arith, nat_tests, all.0, is, count-cons q x xs, count-cons t x xs, count_more q t xs all.1, count_fewer q t xs all.1)

same_live : (q n : ℕ) (r : ProcData) (o : Option ProcData) → IfSome o (λ s. s.pid ≡ r.pid) → exists is_live o ≡ (is_live r && not (r.pid == q)) → exists (λ k. (k.pid == n) && is_live k) o ≡ (((r.pid == n) && is_live r) && not (n == q))
same_live q n r o keeps lives = grind (arith, nat_tests, lives)

module _ (q status : ℕ) (rows : Rows) (s : MidStepInvariant rows) (here : is_live_at q rows ≡ true) (leaf : traces_live q rows ≡ false) where
  abbrev change : ProcData → Option ProcData
  change = turned (alone q) q status (told (alone q) q status rows)

  abbrev after : Rows
  after = each change (turned_lwp (alone q) q status (told (alone q) q status rows)) rows

  pub ended : end kills q status rows ≡ after
  ended =
      leaf_end kills rows q status refl s (listed rows q here) leaf
      ∙ end_alone_told (λ n. is_live_at n rows) q status rows (sound_fits rows q s leaf) here
      ∙ end_turned (alone q) q status rows s.rising

  lives : (r : ProcData) → exists is_live (change r) ≡ (is_live r && not (r.pid == q))
  unfolding notified_row heard
  lives r = grind (arith, nat_tests)

  pub live_at : (n : ℕ) → is_live_at n after ≡ (is_live_at n rows && not (n == q))
  live_at n = any_edited change (λ r. (r.pid == n) && is_live r) rows.processes
      ∙ any_but (λ r. (r.pid == n) && is_live r) (λ r. exists (λ k. (k.pid == n) && is_live k) (change r)) (not (n == q)) rows.processes
      (All-any _ (λ r. same_live q n r (change r) (turned_keeps (alone q) q status (told (alone q) q status rows) r) (lives r)) rows.processes)

pub leaf_ends_no_other : LeafEndsNoOther
leaf_ends_no_other settings rows q status n on s is leaf = rw (is_kills settings on) (ap (is_live_at n) (ended q status rows s is leaf) ∙ live_at q status rows s is leaf n)

pub leaf_end_leaves_fewer : LeafEndLeavesFewer
leaf_end_leaves_fewer settings rows q status on s is leaf =
    let alike = lives q status rows s is leaf in
    rw (is_kills settings on) (subst (λ (rs : Rows). count_by is_live rs.processes < count_by is_live rows.processes) (sym (ended q status rows s is leaf))
    (rw (count_edited (change q status rows s is leaf) is_live rows.processes)
    (count_fewer (λ r. exists is_live (change q status rows s is leaf r)) is_live rows.processes (All-any _ (λ r h. and_left (is_live r) _ (sym (alike r) ∙ h)) rows.processes)
    (any_more (λ r. (r.pid == q) && is_live r) _ (λ r h. rw (alike r) (grind (arith, nat_tests, h))) rows.processes is))))
