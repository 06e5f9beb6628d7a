-- Lists edited twice, and what is found after an edit.
use Rattle.trace_rows.proofs.CommonNames.{◌≡◌, ℕ, ◌<◌, List, [], ◌∷◌, filter_map, find, Bool, true, ◌==◌, Option, Some, IfSome, refl, arith, rules, count_by, option_and_then, AllByRecursion, list_any, nat_tests, ProcData}
use Rattle.trace_rows.proofs.CommonNames.{LwpData, process_of, is_live, Rows, by_owner, each, AllAbove, Rise, every_found, none_above, once, Once, exists}
use Rattle.trace_rows.proofs.Every.{All-edit, All-imply, All-any, All-both, count-cons}

pub filter_map_same : {X Y : Type 0} (f g : X → Option Y) (xs : List X) → AllByRecursion (λ x. f x ≡ g x) xs → filter_map f xs ≡ filter_map g xs
filter_map_same f g [] all = refl
filter_map_same f g (x ∷ xs) all = grind (arith, all.0, filter_map_same f g xs all.1)

pub filter_map_twice : {X Y Z : Type 0} (f : X → Option Y) (g : Y → Option Z) (xs : List X) → filter_map g (filter_map f xs) ≡ filter_map (λ x. option_and_then g (f x)) xs
filter_map_twice f g [] = refl
filter_map_twice f g (x ∷ xs) = grind (arith, filter_map_twice f g xs)

pub any_same : {X : Type 0} (q t : X → Bool) (xs : List X) → AllByRecursion (λ x. q x ≡ t x) xs → list_any q xs ≡ list_any t xs
any_same q t [] all = refl
any_same q t (x ∷ xs) all = rw (all.0, any_same q t xs all.1) refl

pub any_edited : {X Y : Type 0} (f : X → Option Y) (q : Y → Bool) (xs : List X) → list_any q (filter_map f xs) ≡ list_any (λ x. exists q (f x)) xs
any_edited f q [] = refl
any_edited f q (x ∷ xs) = grind (arith, any_edited f q xs)

pub count_edited : {X Y : Type 0} (f : X → Option Y) (q : Y → Bool) (xs : List X) → count_by q (filter_map f xs) ≡ count_by (λ x. exists q (f x)) xs
count_edited f q [] = refl
count_edited {X} {Y} f q (x ∷ xs) = grind (arith, count-cons {A = Y} q, count-cons (λ y. exists q (f y)) x xs, count_edited f q xs)

-- Rows by their numbers

-- an edit that keeps the numbers of rows
abbrev pub KeepsNumbers : (ProcData → Option ProcData) → Type 0
KeepsNumbers f = (p : ProcData) → IfSome (f p) (λ q. q.pid ≡ p.pid)

pub above_edited : (f : ProcData → Option ProcData) → KeepsNumbers f → (n : ℕ) (ps : List ProcData) → AllAbove n ps → AllAbove n (filter_map f ps)
above_edited f keeps n ps above = All-edit f _ (λ q. n < q.pid) (λ p lt. grind (arith, keeps p, lt)) ps above

pub rise_edited : (f : ProcData → Option ProcData) → KeepsNumbers f → (ps : List ProcData) → Rise ps → Rise (filter_map f ps)
rise_edited f keeps [] rise = tt
rise_edited f keeps (p ∷ ps) rise = grind (arith, keeps p, rise_edited f keeps ps rise.1, above_edited f keeps p.pid ps rise.0)

pub process_edited : (f : ProcData → Option ProcData) → KeepsNumbers f → (n : ℕ) (ps : List ProcData) → Rise ps → process_of n (filter_map f ps) ≡ option_and_then f (process_of n ps)
process_edited f keeps n [] rise = refl
process_edited f keeps n (p ∷ ps) rise = grind (arith, nat_tests, keeps p, process_edited f keeps n ps rise.1, none_above p.pid n, above_edited f keeps p.pid ps rise.0)

pub found_above : (t : ProcData → Bool) (n : ℕ) (ps : List ProcData) (p : ProcData) → AllAbove n ps → find t ps ≡ Some p → n < p.pid
found_above t n ps p above is = every_found (λ q. n < q.pid) t ps p above is

-- if numbers differ, each element is found by its own
pub own_found : {X : Type 0} (number : X → ℕ) (xs : List X) → Once number xs → AllByRecursion (λ x. find (λ y. number y == number x) xs ≡ Some x) xs
own_found number [] differ = tt
own_found number (x ∷ xs) differ = (grind (arith, nat_tests), All-imply _ _ (λ y h. grind (arith, nat_tests, h.0, h.1)) xs (All-both _ _ xs differ.0 (own_found number xs differ.1)))

pub own_rows : (ps : List ProcData) → Rise ps → AllByRecursion (λ p. process_of p.pid ps ≡ Some p) ps
own_rows ps rise = own_found (λ p. p.pid) ps (once ps rise)

-- edits that agree on the rows there are
pub each_equal : (f g : ProcData → Option ProcData) (lwp lwp' : ProcData → LwpData → Option LwpData) (rows : Rows) → AllByRecursion (λ p. f p ≡ g p) rows.processes
    → AllByRecursion (λ l. (p : ProcData) → process_of l.pid rows.processes ≡ Some p → lwp p l ≡ lwp' p l) rows.lwps → each f lwp rows ≡ each g lwp' rows
each_equal f g lwp lwp' rows all every = rw (
  filter_map_same f g rows.processes all,
  filter_map_same (λ l. by_owner lwp l (process_of l.pid rows.processes)) (λ l. by_owner lwp' l (process_of l.pid rows.processes)) rows.lwps (All-imply _ _ (λ l h. grind (arith, h)) rows.lwps every),
) refl

-- edits that agree on the rows, and on the LWPs of live ones, which are all LWPs
pub each_agree : (f g : ProcData → Option ProcData) (lwp lwp' : ProcData → LwpData → Option LwpData) (rows : Rows)
    → AllByRecursion (λ p. (f p ≡ g p) × (is_live p ≡ true → (l : LwpData) → lwp p l ≡ lwp' p l)) rows.processes
    → AllByRecursion (λ l. (p : ProcData) → process_of l.pid rows.processes ≡ Some p → is_live p ≡ true) rows.lwps → each f lwp rows ≡ each g lwp' rows
each_agree f g lwp lwp' rows all owners = each_equal f g lwp lwp' rows (All-imply _ _ (λ p h. h.0) rows.processes all)
    (All-imply _ _ (λ l live p at. (every_found _ (λ q. q.pid == l.pid) rows.processes p all at).1 (live p at) l) rows.lwps owners)

-- and so do edits that agree on the LWPs of each row
pub each_same : (f g : ProcData → Option ProcData) (lwp lwp' : ProcData → LwpData → Option LwpData) (rows : Rows)
    → AllByRecursion (λ p. (f p ≡ g p) × ((l : LwpData) → lwp p l ≡ lwp' p l)) rows.processes → each f lwp rows ≡ each g lwp' rows
each_same f g lwp lwp' rows all = each_equal f g lwp lwp' rows (All-imply _ _ (λ p h. h.0) rows.processes all) (All-any _ (λ l p at. (every_found _ (λ q. q.pid == l.pid) rows.processes p all at).1 l) rows.lwps)

-- an edit of LWPs that keeps their processes
abbrev pub KeepsOwners : (ProcData → LwpData → Option LwpData) → Type 0
KeepsOwners lwp = (p : ProcData) (l : LwpData) → IfSome (lwp p l) (λ k. k.pid ≡ l.pid)

-- one edit after another
pub each_twice : (f g : ProcData → Option ProcData) (lwp lwp' : ProcData → LwpData → Option LwpData) (rows : Rows) → Rise rows.processes → KeepsNumbers f → KeepsOwners lwp
    → each g lwp' (each f lwp rows) ≡ each (λ p. option_and_then g (f p)) (λ p l. option_and_then (λ k. by_owner lwp' k (f p)) (lwp p l)) rows
each_twice f g lwp lwp' rows rise keeps owners = search (rules, filter_map_twice, filter_map_same, process_edited)
