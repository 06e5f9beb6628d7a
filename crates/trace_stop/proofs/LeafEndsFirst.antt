-- A process that is doomed and traces no live one ends before the process that dooms it.
use Rattle.trace_stop.proofs.CommonNames.{◌≡◌, ℕ, zero, suc, List, Bool, true, false, not, ◌&&◌, ◌||◌, ◌==◌, Option, Some, IfSome, refl, sym, ap, ◌∙◌, true≢false, eqb-true, arith, rules, fun_ext, nat_tests}
use Rattle.trace_stop.proofs.CommonNames.{option_and_then, AllByRecursion, list_any, SIGKILL, ProcData, process_of, is_live, is_live_at, Rows, Rise, each, exists, process_after, lwp_after, end, end_each}
use Rattle.trace_stop.proofs.CommonNames.{MidStepInvariant, WithOwner, Standing, tracer_in, tracer_of, meets, is_doomed, dooms, traces_live, LeafEndsFirst, LeafEndSparesNoDoomed, kills, process_of-pid, All-imply}
use Rattle.trace_stop.proofs.CommonNames.{All-both, find_some, any_edited, own_rows, process_edited, rise_edited, If_more, any_by_number, live_row, meets-suc, meets-zero, meets-more}
use Rattle.trace_stop.proofs.Told.{any_but_or, heard, notified_row, fallen, turned, turned_lwp, either, ends_keep, ends_keep_lwp, turned_keeps, told, told-is, tells, end_tell, end_turned, stepped, Ends}
use Rattle.trace_stop.proofs.EndsTwice.{alone, rest, row_twice, lwp_twice, tells_twice}
use Rattle.trace_stop.proofs.LeafEnd.{Fits, sound_fits, live_of, told_alive, end_each_same, is_kills, live_at, ended}

-- The ends of q and of p as one edit of each row

module _ (alive d : ℕ → Bool) (p q status : ℕ) (rows : Rows) (rise : Rise rows.processes) (dq : d q ≡ true) (qp : (q == p) ≡ false) where
  abbrev t : ℕ → Bool
  t = told (alone q) q SIGKILL rows

  abbrev f : ProcData → Option ProcData
  f = process_after (fallen (alone q)) (alone q) q SIGKILL

  -- q's tracer ends with p
  abbrev Traced : ProcData → Type 0
  Traced r = is_live r ≡ true → alone q r.pid ≡ true → exists d r.tracer ≡ true

  rows_twice : AllByRecursion (Fits alive q) rows.processes → AllByRecursion Traced rows.processes → AllByRecursion (WithOwner rows (λ r l. is_live r ≡ true)) rows.lwps
      → end_each (fallen (rest d q)) (rest d q) p status (end_each (fallen (alone q)) (alone q) q SIGKILL rows) ≡ end_each (fallen d) d p status rows
  rows_twice fits traced owners =
      ap (end_each (fallen (rest d q)) (rest d q) p status) (end_tell (alone q) q SIGKILL rows)
      ∙ stepped (rest d q) d p status f (lwp_after (fallen (alone q)) (alone q)) t rows rise (ends_keep (alone q) q SIGKILL) (ends_keep_lwp (alone q))
      (All-imply _ _ ends rows.processes fits) owners same
    where
      ends : (r : ProcData) → Fits alive q r → Ends (rest d q) d p status f (lwp_after (fallen (alone q)) (alone q)) t r
      ends r h = record {
        row = row_twice d q dq p status qp r h.free;
        lwps = lwp_twice d q dq p status qp r h.free;
        live = let lives = h.lives in grind (arith, nat_tests, lives, told_alive alive (alone q) q q SIGKILL rows fits r.pid);
      }

      same : (x : ℕ) → either (rest d q) t (told (rest d q) p status (each f (lwp_after (fallen (alone q)) (alone q)) rows)) x ≡ told d p status rows x
      same x =
          ap (λ b. (t x && not (rest d q x)) || b) (told-is (rest d q) p status (each f (lwp_after (fallen (alone q)) (alone q)) rows) x ∙ any_edited f (tells (rest d q) x) rows.processes)
          ∙ ap (λ b. (b && not (rest d q x)) || list_any (λ r. exists (tells (rest d q) x) (f r)) rows.processes) (told-is (alone q) q SIGKILL rows x)
          ∙ sym (told-is d p status rows x ∙ any_but_or (tells d x) (tells (alone q) x) (λ r. exists (tells (rest d q) x) (f r)) (not (rest d q x)) rows.processes
          (All-imply _ _ (λ r h. tells_twice d q dq p status qp r h.0.free x h.1) rows.processes (All-both _ Traced rows.processes fits traced)))

-- The processes that end with p

pub dooms_is : (rows : Rows) (p : ℕ) → Rise rows.processes → (n : ℕ) → ((n == p) ≡ true → is_live_at n rows ≡ true) → dooms kills rows.processes p n ≡ (is_live_at n rows && ((n == p) || meets 250 rows.processes p n))
dooms_is rows p rise n here =
    any_by_number (is_doomed kills rows.processes p) n rows.processes rise
    ∙ at_row (process_of n rows.processes) refl (λ same. sym lives ∙ here same) ∙ ap (λ b. b && ((n == p) || meets 250 rows.processes p n)) (sym lives)
  where
    lives : is_live_at n rows ≡ exists is_live (process_of n rows.processes)
    lives = any_by_number is_live n rows.processes rise

    at_row : (o : Option ProcData) → process_of n rows.processes ≡ o → ((n == p) ≡ true → exists is_live o ≡ true) → exists (is_doomed kills rows.processes p) o ≡ (exists is_live o && ((n == p) || meets 250 rows.processes p n))
    at_row o at live = grind (arith, nat_tests, process_of-pid n, at, live)

tracer_lives : (rows : Rows) → MidStepInvariant rows → (n : ℕ) → IfSome (tracer_of rows.processes n) (λ t. is_live_at t rows ≡ true)
tracer_lives rows s n = search (rules, find_some, live_of)

-- what a chain meets is live
met_lives : (rows : Rows) → MidStepInvariant rows → (p k n : ℕ) → meets k rows.processes p n ≡ true → is_live_at p rows ≡ true
met_lives rows s p zero n is = absurd (true≢false (sym is ∙ meets-zero rows.processes p n))
met_lives rows s p (suc k) n is = search (rules, met_lives rows s p k, meets-suc, eqb-true, find_some, live_of)

pub dooms_meets : (rows : Rows) (p n : ℕ) → Rise rows.processes → (n == p) ≡ false → dooms kills rows.processes p n ≡ true → (is_live_at n rows ≡ true) × (meets 250 rows.processes p n ≡ true)
dooms_meets rows p n rise other is = let doomed = dooms_is rows p rise n (λ same. absurd (true≢false (sym same ∙ other))) in grind (arith, nat_tests, other, is, doomed)

end_fallen : (rows : Rows) (p status : ℕ) → Rise rows.processes → is_live_at p rows ≡ true → end kills p status rows ≡ end_each (fallen (dooms kills rows.processes p)) (dooms kills rows.processes p) p status rows
end_fallen rows p status rise live =
    end_each_same (is_doomed kills rows.processes p) (fallen (dooms kills rows.processes p)) (dooms kills rows.processes p) (dooms kills rows.processes p) p status rows
    (All-imply (λ r. process_of r.pid rows.processes ≡ Some r) _ (λ r own. by_row r (any_by_number is_live r.pid rows.processes rise ∙ ap (exists is_live) own)) rows.processes (own_rows rows.processes rise)) (λ n. refl)
  where
    by_row : (r : ProcData) → is_live_at r.pid rows ≡ is_live r → is_doomed kills rows.processes p r ≡ (is_live r && dooms kills rows.processes p r.pid)
    by_row r lives = let same = eqb-true r.pid p in let doomed = dooms_is rows p rise r.pid (λ is. ap (λ n. is_live_at n rows) (same is) ∙ live) in grind (arith, nat_tests, lives, live, doomed)

holds_agree : (f g : ℕ → Bool) (o : Option ℕ) → IfSome o (λ t. f t ≡ g t) → exists f o ≡ exists g o
holds_agree f g o h = grind (arith, h)

module _ (rows : Rows) (p q : ℕ) (s : MidStepInvariant rows) (qp : (q == p) ≡ false) (dq : dooms kills rows.processes p q ≡ true) (leaf : traces_live q rows ≡ false) where
  abbrev ps : List ProcData
  ps = rows.processes

  abbrev doomed : ℕ → Bool
  doomed = dooms kills ps p

  q_row : (is_live_at q rows ≡ true) × (meets 250 ps p q ≡ true)
  q_row = dooms_meets rows p q s.rising qp dq

  p_live : is_live_at p rows ≡ true
  p_live = met_lives rows s p 250 q q_row.1

  doomed-is : (n : ℕ) → doomed n ≡ (is_live_at n rows && ((n == p) || meets 250 ps p n))
  doomed-is n = dooms_is rows p s.rising n (λ same. ap (λ m. is_live_at m rows) (eqb-true n p same) ∙ p_live)

  fits : AllByRecursion (Fits (λ n. is_live_at n rows) q) ps
  fits = sound_fits rows q s leaf

  -- q's tracer ends with p
  pub q_traced : exists doomed (tracer_of ps q) ≡ true
  q_traced = grind (arith, nat_tests, tracer_lives rows s q, sym (meets-suc 249 ps p q) ∙ q_row.1, doomed-is, meets-more 249 ps p)

  -- q's end, as an edit of each row
  abbrev edit : ProcData → Option ProcData
  edit = turned (alone q) q SIGKILL (told (alone q) q SIGKILL rows)

  abbrev left : Rows
  left = each edit (turned_lwp (alone q) q SIGKILL (told (alone q) q SIGKILL rows)) rows

  keeps-tracer : (r : ProcData) → is_live r ≡ true → (r.pid == q) ≡ false → tracer_in (edit r) ≡ r.tracer
  unfolding notified_row heard
  keeps-tracer r live other = grind (arith, nat_tests, live, other)

  tracer-after : (x : ℕ) → is_live_at x rows ≡ true → (x == q) ≡ false → tracer_of left.processes x ≡ tracer_of ps x
  tracer-after x live other =
      let r = live_row rows x s.rising live in
      ap tracer_in (process_edited edit (turned_keeps (alone q) q SIGKILL (told (alone q) q SIGKILL rows)) x ps s.rising ∙ ap (option_and_then edit) r.1)
      ∙ keeps-tracer r.0 r.2 (ap (λ n. n == q) (process_of-pid x r.0 ps r.1) ∙ other) ∙ sym (ap tracer_in r.1)

  tracer_free : (x : ℕ) → is_live_at x rows ≡ true → IfSome (tracer_of ps x) (λ t. (is_live_at t rows ≡ true) × ((t == q) ≡ false))
  tracer_free x live =
      let r = live_row rows x s.rising live in
      let h = (find_some (λ y. y.pid == x) (Fits (λ n. is_live_at n rows) q) ps fits r.0 r.1).0 in
      let tracer = h.tracer in
      let free = h.free r.2 in
      rw r.1 (grind (arith, nat_tests, tracer, free))

  meets-after : (k x : ℕ) → is_live_at x rows ≡ true → (x == q) ≡ false → meets k left.processes p x ≡ meets k ps p x
  meets-after zero x live other = meets-zero left.processes p x ∙ sym (meets-zero ps p x)
  meets-after (suc k) x live other = rw (meets-suc k left.processes p x, meets-suc k ps p x, tracer-after x live other)
      (holds_agree _ _ (tracer_of ps x) (If_more _ _ (λ t h. ap (λ b. (t == p) || b) (meets-after k t h.0 h.1)) (tracer_of ps x) (tracer_free x live)))

  left-rises : Rise left.processes
  left-rises = rise_edited edit (turned_keeps (alone q) q SIGKILL (told (alone q) q SIGKILL rows)) ps s.rising

  lives-after : (n : ℕ) → is_live_at n left ≡ (is_live_at n rows && not (n == q))
  lives-after n = live_at q SIGKILL rows s q_row.0 leaf n

  p_left : is_live_at p left ≡ true
  p_left = grind (arith, nat_tests, lives-after p, p_live, qp)

  -- the same rows are doomed, except q
  doomed-after : (n : ℕ) → dooms kills left.processes p n ≡ rest doomed q n
  doomed-after n = grind (arith, nat_tests, dooms_is left p left-rises n (λ same. ap (λ m. is_live_at m left) (eqb-true n p same) ∙ p_left), doomed-is n, lives-after n, meets-after 250 n)

  abbrev killed : end kills q SIGKILL rows ≡ left
  killed = ended q SIGKILL rows s q_row.0 leaf

  pub dooms_left : (n : ℕ) → dooms kills (end kills q SIGKILL rows).processes p n ≡ (doomed n && not (n == q))
  dooms_left n = ap (λ (rs : Rows). dooms kills rs.processes p n) killed ∙ doomed-after n

  pub law : (status : ℕ) → end kills p status rows ≡ end kills p status (end kills q SIGKILL rows)
  law status =
      end_fallen rows p status s.rising p_live
      ∙ sym (rows_twice (λ n. is_live_at n rows) doomed p q status rows s.rising dq qp fits traced owners)
      ∙ ap (end_each (fallen (rest doomed q)) (rest doomed q) p status) (end_turned (alone q) q SIGKILL rows s.rising)
      ∙ ap (λ (over : ℕ → Bool). end_each (fallen over) over p status left) (sym (fun_ext doomed-after))
      ∙ sym (end_fallen left p status left-rises p_left)
      ∙ ap (end kills p status) (sym killed)
    where
      traced : AllByRecursion (Traced (λ n. is_live_at n rows) doomed p q status rows s.rising dq qp) ps
      traced = All-imply (λ r. process_of r.pid ps ≡ Some r) _ (λ r own live same. ap (λ o. exists doomed (tracer_in o)) (sym own) ∙ ap (λ n. exists doomed (tracer_of ps n)) (eqb-true r.pid q same) ∙ q_traced) ps (own_rows ps s.rising)

      owners : AllByRecursion (WithOwner rows (λ r l. is_live r ≡ true)) rows.lwps
      owners = All-imply (WithOwner rows (Standing rows)) _ (λ l h r is. (h r is).live) rows.lwps s.standing

pub leaf_ends_first : LeafEndsFirst
leaf_ends_first settings rows p q status on s qp dq leaf = rw (is_kills settings on) (law rows p q s qp (rw (is_kills settings on) at dq) leaf status)

pub leaf_end_spares_no_doomed : LeafEndSparesNoDoomed
leaf_end_spares_no_doomed settings rows p q n on s qp dq leaf = rw (is_kills settings on) (dooms_left rows p q s qp (rw (is_kills settings on) at dq) leaf n)
