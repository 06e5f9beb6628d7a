-- A step on the way to the end of a process that traces no live one: a row is replaced or removed, and then some are notified.
use Rattle.trace_stop.proofs.CommonNames.{◌≡◌, ℕ, List, [], ◌∷◌, filter, filter_map, Bool, true, false, not, ◌&&◌, ◌||◌, ◌==◌, if◌then◌else◌, Option, Some, None, IfSome, refl, sym, ap, ◌∙◌, eqb-true, eq-eqb, subst}
use Rattle.trace_stop.proofs.CommonNames.{arith, option_map, fun_ext, or-false, nat_tests, AllByRecursion, list_any, option_and_then, ProcData, LwpData, Rows, Rise, each, by_owner, process_of, is_live, set_process}
use Rattle.trace_stop.proofs.CommonNames.{put_process, drop_process, notified, uncollected, collector, process_after, lwp_after, end_each, WithOwner, end_alone, LeavingRow, LeavingLwp, IsLeaving, choose, All-imply}
use Rattle.trace_stop.proofs.CommonNames.{All-both, All-edit, any_holds, find_some, find_passes, exists, any_same, any_edited, KeepsNumbers, the_row, filter_map-map, lwps_left, If_more}
use Rattle.trace_stop.proofs.Told.{is_gone, any_but_or, heard, heard_lwp, notified_row, notified_lwp, fallen, tell, told, told-is, tells, either, untold, told_these, stepped, Ends}
use Rattle.trace_stop.proofs.EndsTwice.{alone}
use Rattle.trace_stop.proofs.LeafEnd.{Fits, any_kept, end_alone_told}

-- What the rows keep

module _ (q : ℕ) (rows : Rows) (v : IsLeaving q rows) where
  pub leaving_fits : AllByRecursion (Fits v.alive q) rows.processes
  leaving_fits = All-imply (LeavingRow v.alive q) _ (λ r h. record { lives = h.lives; tracer = h.tracer; parent = h.parent; free = h.free }) rows.processes v.processes

  pub alive_q : v.alive q ≡ true
  alive_q = any_holds (λ r. (r.pid == q) && is_live r) (LeavingRow v.alive q) (v.alive q ≡ true) (λ r h is. let lives = h.lives in grind (arith, nat_tests, lives, is)) rows.processes v.processes v.here

  pub leaving_told : (w : ℕ) → end_alone q w rows ≡ end_each (fallen (alone q)) (alone q) q w rows
  leaving_told w = end_alone_told v.alive q w rows leaving_fits alive_q

  pub live_owners : AllByRecursion (WithOwner rows (λ r l. is_live r ≡ true)) rows.lwps
  live_owners = All-imply (LeavingLwp v.alive q) _
      (λ l h r at. let own = find_some (λ x. x.pid == l.pid) (LeavingRow v.alive q) rows.processes v.processes r at in own.0.lives ∙ ap v.alive (eqb-true r.pid l.pid own.1) ∙ h.lives)
      rows.lwps v.lwps

  -- and after notifications
  pub told_leaving : (t : ℕ → Bool) → IsLeaving q (tell t rows)
  unfolding notified_row notified_lwp heard heard_lwp
  told_leaving t = record {
    alive = v.alive;
    here = any_kept (λ r. (r.pid == q) && is_live r) (λ r. Some (notified_row t r)) rows.processes (λ r. grind arith) ∙ v.here;
    processes = All-edit (λ r. Some (notified_row t r)) (LeavingRow v.alive q) _
        (λ r h. choose (t r.pid) (heard r) r (LeavingRow v.alive q) (λ e. record { lives = h.lives; tracer = h.tracer; parent = h.parent; free = h.free; left = h.left }) (λ e. h)) rows.processes v.processes;
    lwps = All-edit (λ l. by_owner (λ r k. Some (notified_lwp t r k)) l (process_of l.pid rows.processes)) (LeavingLwp v.alive q) _
        (λ l h. at_owner l h (process_of l.pid rows.processes)) rows.lwps v.lwps;
  }
    where
      at_owner : (l : LwpData) → LeavingLwp v.alive q l → (o : Option ProcData) → IfSome (by_owner (λ r k. Some (notified_lwp t r k)) l o) (LeavingLwp v.alive q)
      at_owner l h None = h
      at_owner l h (Some r) = choose (t r.pid) (heard_lwp r l) l (LeavingLwp v.alive q) (λ e. record { lives = h.lives; other = h.other; waits = h.waits }) (λ e. h)

-- A row replaced or removed

abbrev pub replaced : ℕ → Option ProcData → ProcData → Option ProcData
replaced n o r = if r.pid == n then o else Some r

abbrev pub same_lwp : ProcData → LwpData → Option LwpData
same_lwp r l = Some l

each_process : (f : ProcData → Option ProcData) (rows : Rows) (ps : List ProcData) → ps ≡ filter_map f rows.processes → record rows { processes = ps } ≡ each f same_lwp rows
each_process f rows ps same = rw (same, lwps_left rows) refl

dropped : (n : ℕ) (ps : List ProcData) → filter (λ p. not (p.pid == n)) ps ≡ filter_map (replaced n None) ps
dropped n [] = refl
dropped n (r ∷ ps) = grind (arith, dropped n ps)

pub drop_each : (n : ℕ) (rows : Rows) → drop_process n rows ≡ each (replaced n None) same_lwp rows
drop_each n rows = each_process (replaced n None) rows _ (dropped n rows.processes)

pub set_each : (k : ProcData) (rows : Rows) → set_process k rows ≡ each (replaced k.pid (Some k)) same_lwp rows
set_each k rows = each_process (replaced k.pid (Some k)) rows _ (sym (filter_map-map (replaced k.pid (Some k)) (put_process k) (λ r. grind arith) rows.processes))

pub collector_none : (z : ProcData) → option_map collector (uncollected z) ≡ None → is_gone z ≡ true
collector_none z none = grind (arith, nat_tests, none)

pub collector_some : (z : ProcData) (m : ℕ) → option_map collector (uncollected z) ≡ Some m → (is_gone z ≡ false) × (m ≡ collector z)
collector_some z m some = grind (arith, nat_tests)

-- what the code makes of a zombie k that replaces a row
module _ (k : ProcData) (rows : Rows) where
  abbrev made_of : Option ProcData → Rows
  made_of o = tell (λ x. exists (λ n. n == x) (option_map collector o)) (each (replaced k.pid o) same_lwp rows)

  abbrev pub zombie_made : Rows
  zombie_made = made_of (uncollected k)

  pub collected_none : is_gone k ≡ true → drop_process k.pid rows ≡ zombie_made
  collected_none gone = drop_each k.pid rows ∙ sym (ap (λ b. made_of (if b then None else Some k)) gone ∙ untold (each (replaced k.pid None) same_lwp rows))

  pub collected_some : (m : ℕ) → (is_gone k ≡ false) × (m ≡ collector k) → notified (m ∷ []) (set_process k rows) ≡ zombie_made
  collected_some m left =
      ap (notified (m ∷ [])) (set_each k rows) ∙ told_these (m ∷ []) (each (replaced k.pid (Some k)) same_lwp rows)
      ∙ ap (λ t. tell t (each (replaced k.pid (Some k)) same_lwp rows)) (fun_ext (λ x. or-false (m == x) ∙ ap (λ n. n == x) left.1))
      ∙ sym (ap (λ b. made_of (if b then None else Some k)) left.0)

-- what the row z and the notifications keep of q's end, if z is replaced or removed, and those of t are notified
pub record Replaces (alive : ℕ → Bool) (q : ℕ) (z : ProcData) (o : Option ProcData) (t : ℕ → Bool) : Type 0 where
  pub number : IfSome o (λ s. s.pid ≡ z.pid)
  pub fits : IfSome o (LeavingRow alive q)
  pub live : exists is_live o ≡ is_live z
  pub row : (w : ℕ) → option_and_then (process_after (fallen (alone q)) (alone q) q w) o ≡ process_after (fallen (alone q)) (alone q) q w z
  pub lwps : is_live z ≡ true → (l : LwpData) → by_owner (lwp_after (fallen (alone q)) (alone q)) l o ≡ lwp_after (fallen (alone q)) (alone q) z l
  pub tells : (x : ℕ) → tells (alone q) x z ≡ ((t x && not (x == q)) || exists (tells (alone q) x) o)
  pub told : (x : ℕ) → t x ≡ true → alive x ≡ true

module _ (q : ℕ) (rows : Rows) (v : IsLeaving q rows) (rise : Rise rows.processes) (z : ProcData) (at : process_of z.pid rows.processes ≡ Some z) (o : Option ProcData) (t : ℕ → Bool) (k : Replaces v.alive q z o t) where
  abbrev f : ProcData → Option ProcData
  f = replaced z.pid o

  abbrev edited : Rows
  edited = each f same_lwp rows

  -- a fact of the row that is replaced, and of the others
  each_row : (P : ProcData → Type 0) → ((r : ProcData) → (r.pid == z.pid) ≡ false → P r) → ((r : ProcData) → (r.pid == z.pid) ≡ true → r ≡ z → P r) → AllByRecursion P rows.processes
  each_row P stays changes = All-imply (λ r. r.pid ≡ z.pid → r ≡ z) P (λ r one. by_number r one (r.pid == z.pid) refl) rows.processes (the_row z.pid rows.processes z rise at)
    where
      by_number : (r : ProcData) → (r.pid ≡ z.pid → r ≡ z) → (b : Bool) → (r.pid == z.pid) ≡ b → P r
      by_number r one true same = changes r same (one (eqb-true r.pid z.pid same))
      by_number r one false other = stays r other

  edited-live : AllByRecursion (λ r. exists (λ s. (s.pid == q) && is_live s) (f r) ≡ ((r.pid == q) && is_live r)) rows.processes
  edited-live = each_row _ (λ r other. rw other refl) (λ r same is. let number = k.number in let live = k.live in rw same (grind (arith, nat_tests, is, number, live)))

  edited-fits : AllByRecursion (λ r. IfSome (f r) (LeavingRow v.alive q)) rows.processes
  edited-fits = All-imply (LeavingRow v.alive q) _ (λ r h. choose (r.pid == z.pid) o (Some r) (λ s. IfSome s (LeavingRow v.alive q)) (λ e. k.fits) (λ e. h)) rows.processes v.processes

  edited_leaving : IsLeaving q edited
  edited_leaving = record {
    alive = v.alive;
    here = any_edited f (λ r. (r.pid == q) && is_live r) rows.processes ∙ any_same _ _ rows.processes edited-live ∙ v.here;
    processes = All-edit f (λ r. IfSome (f r) (LeavingRow v.alive q)) (LeavingRow v.alive q) (λ r h. h) rows.processes edited-fits;
    lwps = subst (AllByRecursion (LeavingLwp v.alive q)) (sym (lwps_left rows)) v.lwps;
  }

  pub step_leaving : IsLeaving q (tell t edited)
  step_leaving = told_leaving q edited edited_leaving t

  ends : (w : ℕ) → AllByRecursion (Ends (alone q) (alone q) q w f same_lwp t) rows.processes
  ends w = All-imply (λ r. IfSome (f r) (LeavingRow v.alive q) × ((option_and_then (process_after (fallen (alone q)) (alone q) q w) (f r) ≡ process_after (fallen (alone q)) (alone q) q w r)
      × (is_live r ≡ true → (l : LwpData) → by_owner (lwp_after (fallen (alone q)) (alone q)) l (f r) ≡ lwp_after (fallen (alone q)) (alone q) r l))) _
      (λ r h. record { row = h.1.0; lwps = h.1.1; live = If_more _ _ (λ s fit is. fit.lives ∙ k.told s.pid is) (f r) h.0 }) rows.processes
      (All-both _ _ rows.processes edited-fits (each_row _ (λ r other. rw other (refl, λ live l. refl)) (λ r same is. rw (is, eq-eqb z.pid z.pid refl) (k.row w, k.lwps))))

  pub step_same : (w : ℕ) → end_alone q w (tell t edited) ≡ end_alone q w rows
  step_same w =
      leaving_told q (tell t edited) step_leaving w
      ∙ stepped (alone q) (alone q) q w f same_lwp t rows rise keeps (λ r l. refl) (ends w) (live_owners q rows v) same
      ∙ sym (leaving_told q rows v w)
    where
      keeps : KeepsNumbers f
      keeps r = let number = k.number in grind (arith, nat_tests, number)

      same : (x : ℕ) → either (alone q) t (told (alone q) q w edited) x ≡ told (alone q) q w rows x
      same x =
          ap (λ b. (t x && not (x == q)) || b) (told-is (alone q) q w edited x ∙ any_edited f (tells (alone q) x) rows.processes)
          ∙ ap (λ b. (b && (t x && not (x == q))) || list_any (λ r. exists (tells (alone q) x) (f r)) rows.processes) (sym (find_passes (λ r. r.pid == z.pid) (λ r. r.pid == z.pid) rows.processes z at (eq-eqb z.pid z.pid refl)))
          ∙ sym (told-is (alone q) q w rows x ∙ any_but_or (tells (alone q) x) (λ r. r.pid == z.pid) (λ r. exists (tells (alone q) x) (f r)) (t x && not (x == q)) rows.processes
          (each_row _ (λ r other. rw other refl) (λ r same is. rw (is, eq-eqb z.pid z.pid refl) (k.tells x))))
