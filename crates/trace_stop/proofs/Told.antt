-- The end of processes as an edit of each row, and then the notifications; what an earlier notification changes.
use Rattle.trace_stop.proofs.CommonNames.{◌≡◌, ℕ, Bool, true, false, not, ◌&&◌, ◌||◌, ◌==◌, if◌then◌else◌, Option, Some, None, IfSome, refl, sym, ap, ◌∙◌, arith, bit_or, rules, filter_map, option_map, is_none, List, []}
use Rattle.trace_stop.proofs.CommonNames.{◌∷◌, fun_ext, nat_tests, AllByRecursion, list_any, option_and_then, without, SIGCHLD, ProcData, LwpData, Rows, Rise, each, by_owner, process_of, is_live}
use Rattle.trace_stop.proofs.CommonNames.{posted_process, posted_lwp, process_after, lwp_after, end_each, keep, exists, uncollected, collector, notified, notified-none, All-imply, All-edit, any_edited}
use Rattle.trace_stop.proofs.CommonNames.{any_same, KeepsNumbers, KeepsOwners, each_same, each_twice, each_agree, rise_edited}
use Rattle.std.proofs.lemmas.Nat.Bits.{bit_at_or, bit_at_xor, same_from_bits}
use Rattle.trace_rows.proofs.CommonNames.{notifies_of}

-- a test, and the same narrowed by a condition
pub any_but : {X : Type 0} (f g : X → Bool) (c : Bool) (xs : List X) → AllByRecursion (λ x. g x ≡ (f x && c)) xs → list_any g xs ≡ (list_any f xs && c)
any_but f g c [] all = refl
any_but f g c (x ∷ xs) all = grind (arith, nat_tests, all.0, any_but f g c xs all.1)

pub any_but_or : {X : Type 0} (f g h : X → Bool) (c : Bool) (xs : List X) → AllByRecursion (λ x. f x ≡ ((g x && c) || h x)) xs → list_any f xs ≡ ((list_any g xs && c) || list_any h xs)
any_but_or f g h c [] all = refl
any_but_or f g h c (x ∷ xs) all = grind (arith, nat_tests, all.0, any_but_or f g h c xs all.1)

-- SIGCHLD posted to a process, and to an LWP of it
unfoldable pub heard : ProcData → ProcData
heard p = posted_process SIGCHLD None p

unfoldable pub heard_lwp : ProcData → LwpData → LwpData
heard_lwp p l = posted_lwp SIGCHLD None p l

set_twice : (a c n : ℕ) → without (bit_or (without (without (bit_or (without a 0) c) n) 0) c) n ≡ without (bit_or (without a 0) c) n
set_twice a c n = same_from_bits _ _ (λ i. simp (bit_at_or, bit_at_xor) (omega arith))

lwp_set_twice : (a n : ℕ) → without (without (without (without a 0) n) 0) n ≡ without (without a 0) n
lwp_set_twice a n = same_from_bits _ _ (λ i. simp (bit_at_or, bit_at_xor) (omega arith))

-- a row that is notified, if it is among those; and an LWP of it
unfoldable pub notified_row : (ℕ → Bool) → ProcData → ProcData
notified_row told p = if told p.pid then heard p else p

unfoldable pub notified_lwp : (ℕ → Bool) → ProcData → LwpData → LwpData
notified_lwp told p l = if told p.pid then heard_lwp p l else l

-- a live process that ends
abbrev pub fallen : (ℕ → Bool) → ProcData → Bool
fallen over p = is_live p && over p.pid

abbrev pub tell : (ℕ → Bool) → Rows → Rows
tell told rows = each (λ r. Some (notified_row told r)) (λ r l. Some (notified_lwp told r l)) rows

abbrev pub parted : (ℕ → Bool) → ℕ → ℕ → Rows → Rows
parted over p status rows = each (process_after (fallen over) over p status) (lwp_after (fallen over) over) rows

abbrev pub turned : (ℕ → Bool) → ℕ → ℕ → (ℕ → Bool) → ProcData → Option ProcData
turned over p status told r = option_and_then (λ k. Some (notified_row told k)) (process_after (fallen over) over p status r)

abbrev pub turned_lwp : (ℕ → Bool) → ℕ → ℕ → (ℕ → Bool) → ProcData → LwpData → Option LwpData
turned_lwp over p status told r l =
    option_and_then (λ k. by_owner (λ x j. Some (notified_lwp told x j)) k (process_after (fallen over) over p status r)) (lwp_after (fallen over) over r l)

-- those notified before an end who live on, and those notified after it
abbrev pub either : (ℕ → Bool) → (ℕ → Bool) → (ℕ → Bool) → ℕ → Bool
either over t t' x = (t x && not (over x)) || t' x

module _ (over : ℕ → Bool) (p status : ℕ) (t t' : ℕ → Bool) (r : ProcData) (dead : t r.pid ≡ true → is_live r ≡ true) where
  abbrev Heard : Type 0
  Heard = (turned over p status t' (notified_row t r) ≡ turned over p status (either over t t') r) × ((l : LwpData) → turned_lwp over p status t' (notified_row t r) (notified_lwp t r l) ≡ turned_lwp over p status (either over t t') r l)

  missed : t r.pid ≡ false → Heard
  unfolding notified_row notified_lwp
  missed none = (grind (arith, nat_tests, none), λ l. grind (arith, nat_tests, none))

  lives : t r.pid ≡ true → is_live r ≡ true → Heard
  unfolding notified_row notified_lwp heard heard_lwp
  lives is live = (rw (is, live) (grind (arith, nat_tests, is, set_twice)), λ l. rw (is, live) (grind (arith, nat_tests, is, lwp_set_twice)))

  pub heard_end : Heard
  heard_end = search (rules, missed, lives)

-- What an end and a notification keep of a row's number, and of an LWP's process

pub ends_keep : (over : ℕ → Bool) (p status : ℕ) → KeepsNumbers (process_after (fallen over) over p status)
ends_keep over p status r = first_of (grind arith, search)

pub ends_keep_lwp : (over : ℕ → Bool) → KeepsOwners (lwp_after (fallen over) over)
ends_keep_lwp over r l = grind (arith, nat_tests)

pub told-pid : (t : ℕ → Bool) (r : ProcData) → (notified_row t r).pid ≡ r.pid
unfolding notified_row heard
told-pid t r = grind arith

pub told_lwp-pid : (t : ℕ → Bool) (r : ProcData) (l : LwpData) → (notified_lwp t r l).pid ≡ l.pid
unfolding notified_lwp heard_lwp
told_lwp-pid t r l = grind arith

pub turned_keeps : (over : ℕ → Bool) (p status : ℕ) (t : ℕ → Bool) → KeepsNumbers (turned over p status t)
turned_keeps over p status t r = search (rules, fallen, ends_keep, told-pid)

turned_each : (over : ℕ → Bool) (p status : ℕ) (rows : Rows) → Rise rows.processes → (t : ℕ → Bool) → tell t (parted over p status rows) ≡ each (turned over p status t) (turned_lwp over p status t) rows
turned_each over p status rows rise t = each_twice (process_after (fallen over) over p status) _ (lwp_after (fallen over) over) _ rows rise (ends_keep over p status) (ends_keep_lwp over)

-- notifications before an end
pub heard_first : (over : ℕ → Bool) (p status : ℕ) (rows : Rows) (t t' : ℕ → Bool) → Rise rows.processes → AllByRecursion (λ r. t r.pid ≡ true → is_live r ≡ true) rows.processes
    → tell t' (parted over p status (tell t rows)) ≡ tell (either over t t') (parted over p status rows)
heard_first over p status rows t t' rise live =
    turned_each over p status (tell t rows) (rise_edited (λ r. Some (notified_row t r)) (told-pid t) rows.processes rise) t'
    ∙ each_twice (λ r. Some (notified_row t r)) (turned over p status t') (λ r l. Some (notified_lwp t r l)) (turned_lwp over p status t') rows rise (told-pid t) (told_lwp-pid t)
    ∙ each_same _ (turned over p status (either over t t')) _ (turned_lwp over p status (either over t t')) rows (All-imply _ _ (heard_end over p status t t') rows.processes live)
    ∙ sym (turned_each over p status rows rise (either over t t'))

-- The notified processes

-- whether x is notified of a zombie with this tracer and parent
unfoldable pub told_by : Option ℕ → ℕ → ℕ → Bool
told_by None parent x = not (parent == 1) && (parent == x)
told_by (Some t) parent x = t == x

-- whether a process is notified of the row: of one that ends, and of a zombie whose tracer ends
abbrev pub tells_any : (ℕ → Bool) → ProcData → Bool
tells_any over r = fallen over r || (not (is_live r) && exists over r.tracer)

-- whether x is notified of the row
unfoldable pub tells : (ℕ → Bool) → ℕ → ProcData → Bool
tells over x r = tells_any over r && told_by (keep (λ t. not (over t)) r.tracer) (if over r.parent then 1 else r.parent) x

-- a zombie that no process collects
abbrev pub is_gone : ProcData → Bool
is_gone z = is_none z.tracer && (z.parent == 1)

-- the process that is notified of a zombie, if any
abbrev pub whom : ProcData → ℕ → Bool
whom z x = exists (λ n. n == x) (option_map collector (uncollected z))

pub whom-is : (z : ProcData) (x : ℕ) → whom z x ≡ told_by z.tracer z.parent x
unfolding told_by
whom-is z x = grind (arith, nat_tests)

tells-is : (over : ℕ → Bool) (p status x : ℕ) (r : ProcData) → exists (λ n. n == x) (notifies_of (fallen over) over p status r) ≡ tells over x r
unfolding tells
tells-is over p status x r = search (rules, exists, fallen, whom-is)

-- whether x is notified
unfoldable pub told : (ℕ → Bool) → ℕ → ℕ → Rows → ℕ → Bool
told over p status rows x = list_any (λ n. n == x) (filter_map (notifies_of (fallen over) over p status) rows.processes)

pub told-is : (over : ℕ → Bool) (p status : ℕ) (rows : Rows) (x : ℕ) → told over p status rows x ≡ list_any (tells over x) rows.processes
unfolding told
told-is over p status rows x = search (rules, any_edited, fallen, any_same, tells, tells-is)

pub end_tell : (over : ℕ → Bool) (p status : ℕ) (rows : Rows) → end_each (fallen over) over p status rows ≡ tell (told over p status rows) (parted over p status rows)
unfolding told notified_row notified_lwp heard heard_lwp
end_tell over p status rows = refl

tells-told : (t over : ℕ → Bool) (x : ℕ) (r : ProcData) → tells over x (notified_row t r) ≡ tells over x r
unfolding tells notified_row heard
tells-told t over x r = grind arith

-- notifications change no one who is notified
told-tell : (t over : ℕ → Bool) (p status : ℕ) (rows : Rows) (x : ℕ) → told over p status (tell t rows) x ≡ told over p status rows x
told-tell t over p status rows x = search (rules, told-is, any_edited, any_same, tells-told)

pub end_turned : (over : ℕ → Bool) (p status : ℕ) (rows : Rows) → Rise rows.processes
    → end_each (fallen over) over p status rows ≡ each (turned over p status (told over p status rows)) (turned_lwp over p status (told over p status rows)) rows
end_turned over p status rows rise = end_tell over p status rows ∙ turned_each over p status rows rise (told over p status rows)

-- An edit of the rows before an end, and the notifications after the edit

module _ (over over' : ℕ → Bool) (p status : ℕ) (f : ProcData → Option ProcData) (h : ProcData → LwpData → Option LwpData) (t : ℕ → Bool) where
  -- a row and its LWPs end as others do without the edit
  pub record Ends (r : ProcData) : Type 0 where
    pub row : option_and_then (process_after (fallen over) over p status) (f r) ≡ process_after (fallen over') over' p status r
    pub lwps : is_live r ≡ true → (l : LwpData) → option_and_then (λ k. by_owner (lwp_after (fallen over) over) k (f r)) (h r l) ≡ lwp_after (fallen over') over' r l
    pub live : IfSome (f r) (λ s. t s.pid ≡ true → is_live s ≡ true)

  pub stepped : (rows : Rows) → Rise rows.processes → KeepsNumbers f → KeepsOwners h → AllByRecursion Ends rows.processes
      → AllByRecursion (λ l. (r : ProcData) → process_of l.pid rows.processes ≡ Some r → is_live r ≡ true) rows.lwps
      → ((x : ℕ) → either over t (told over p status (each f h rows)) x ≡ told over' p status rows x)
      → end_each (fallen over) over p status (tell t (each f h rows)) ≡ end_each (fallen over') over' p status rows
  stepped rows rise keeps keeps_lwp ends owners same =
      end_tell over p status (tell t (each f h rows))
      ∙ heard_first over p status (each f h rows) t (told over p status (tell t (each f h rows))) (rise_edited f keeps rows.processes rise) (All-edit f Ends _ (λ r e. e.live) rows.processes ends)
      ∙ ap (λ k. tell k (parted over p status (each f h rows))) (fun_ext (λ x. ap (λ b. (t x && not (over x)) || b) (told-tell t over p status (each f h rows) x) ∙ same x))
      ∙ ap (tell (told over' p status rows)) (each_twice f _ h _ rows rise keeps keeps_lwp ∙ each_agree _ _ _ _ rows (All-imply Ends _ (λ r e. (e.row, e.lwps)) rows.processes ends) owners)
      ∙ sym (end_tell over' p status rows)

pub untold : (rows : Rows) → tell (λ x. false) rows ≡ rows
unfolding notified_row notified_lwp
untold rows = notified-none rows

pub told_these : (ns : List ℕ) (rows : Rows) → notified ns rows ≡ tell (λ x. list_any (λ n. n == x) ns) rows
unfolding notified_row notified_lwp heard heard_lwp
told_these ns rows = refl
