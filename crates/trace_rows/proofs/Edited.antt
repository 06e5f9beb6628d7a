-- Lists whose elements are each changed, or taken out.
use Rattle.trace_rows.proofs.CommonNames.{nat_tests, AllByRecursion, list_any, LwpData, Differ, LacksLwp, ProcData, Rows, by_owner, process_of, ◌≡◌, ℕ, ◌+◌, ◌≤◌, List, [], ◌∷◌, find, filter_map, Bool, true, false, ◌==◌, Option, Some, None}
use Rattle.trace_rows.proofs.CommonNames.{IfSome, refl, arith, subst, eqb-true, rules, count_by}
use Rattle.trace_rows.proofs.Every.{All-edit, by_bool, count-cons}

abbrev pub edited : (ProcData → Option ProcData) → (LwpData → Option LwpData) → Rows → Rows
edited f h rows = record rows { processes = filter_map f rows.processes; lwps = filter_map h rows.lwps }

pub If_more : {X : Type 0} (P Q : X → Type 0) → ((x : X) → P x → Q x) → (o : Option X) → IfSome o P → IfSome o Q
If_more P Q h None is = tt
If_more P Q h (Some x) is = h x is

pub some_is : {X : Type 0} (a b : X) → Some a ≡ Some b → a ≡ b
some_is a b is = grind (arith, is)

pub if_at : {X : Type 0} (P : X → Type 0) (o : Option X) (x : X) → o ≡ Some x → IfSome o P → P x
if_at P o x is all = subst (λ p. IfSome p P) is all

pub if_from : {X : Type 0} (P : X → Type 0) (o : Option X) → ((x : X) → o ≡ Some x → P x) → IfSome o P
if_from P o h = grind (arith, h)

pub edit_none : {X : Type 0} (f : X → Option X) → ((x : X) → f x ≡ Some x) → (xs : List X) → filter_map f xs ≡ xs
edit_none f h [] = refl
edit_none f h (x ∷ xs) = grind (arith, h x, edit_none f h xs)

-- an edit of only processes leaves the LWPs
pub lwps_left : (rows : Rows) → filter_map (λ l. by_owner (λ p k. Some k) l (process_of l.pid rows.processes)) rows.lwps ≡ rows.lwps
lwps_left rows = search (rules, edit_none)

-- tests and counts of what is left

pub any_edit : {X : Type 0} (q t : X → Bool) (f : X → Option X) → ((x : X) → IfSome (f x) (λ y. q y ≡ true → t x ≡ true)) → (xs : List X) → list_any q (filter_map f xs) ≡ true → list_any t xs ≡ true
any_edit q t f h [] is = is
any_edit q t f h (x ∷ xs) is = grind (arith, nat_tests, h x, is, any_edit q t f h xs)

pub count_edit : {X : Type 0} (q t : X → Bool) (f : X → Option X) → ((x : X) → IfSome (f x) (λ y. q y ≡ true → t x ≡ true)) → (xs : List X) → count_by q (filter_map f xs) ≤ count_by t xs
count_edit q t f h [] = omega arith
count_edit q t f h (x ∷ xs) = grind (arith, nat_tests, h x, count-cons q, count-cons t x xs, count_edit q t f h xs)

-- what is found of what is left

pub find_edit : {X : Type 0} (q : X → Bool) (f : X → Option X) → ((x : X) → IfSome (f x) (λ y. q y ≡ q x)) → (xs : List X) → (x y : X) → find q xs ≡ Some x → f x ≡ Some y → find q (filter_map f xs) ≡ Some y
find_edit q f h [] x y is to = absurd (grind (arith, is))
find_edit {X} q f h (z ∷ xs) x y is to = search (rules, find_edit q f h xs x y, find, some_is)

lacks_edit : (h : LwpData → Option LwpData) → ((l : LwpData) → IfSome (h l) (λ k. k.tid ≡ l.tid)) → (n : ℕ) (ls : List LwpData) → LacksLwp n ls → LacksLwp n (filter_map h ls)
lacks_edit h g n ls all = All-edit h _ (λ k. k.tid ≡ n → ⊥) (λ l apart. grind (arith, g l, apart)) ls all

pub Differ-edit : (h : LwpData → Option LwpData) → ((l : LwpData) → IfSome (h l) (λ k. k.tid ≡ l.tid)) → (ls : List LwpData) → Differ ls → Differ (filter_map h ls)
Differ-edit h g [] all = tt
Differ-edit h g (l ∷ ls) all = grind (arith, g l, Differ-edit h g ls all.1, lacks_edit h g l.tid ls all.0)

-- Counts if none of those counted is gone, and if one may be

pub count_kept : {X : Type 0} (t r : X → Bool) (h : X → Option X) (R : X → Type 0) → ((x : X) → R x → t x ≡ true → (y : X) × (h x ≡ Some y) × (r y ≡ true)) → (xs : List X) → AllByRecursion R xs → count_by t xs ≤ count_by r (filter_map h xs)
count_kept t r h R keep [] all = omega arith
count_kept t r h R keep (x ∷ xs) all = grind (arith, nat_tests, keep x all.0, count-cons t x xs, count-cons r, count_kept t r h R keep xs all.1)

lacks : (n : ℕ) (ls : List LwpData) → LacksLwp n ls → AllByRecursion (λ l. (l.tid == n) ≡ false) ls
lacks n [] all = tt
lacks n (l ∷ ls) all = (by_bool (l.tid == n) (λ e. all.0 (eqb-true l.tid n e)), lacks n ls all.1)

-- of the LWPs counted only the one numbered n may go
pub one_gone : (t : LwpData → Bool) (n : ℕ) (h : LwpData → Option LwpData) → ((l : LwpData) → (l.tid == n) ≡ false → t l ≡ true → (k : LwpData) × (h l ≡ Some k) × (t k ≡ true)) → (ls : List LwpData) → Differ ls → count_by t ls ≤ count_by t (filter_map h ls) + 1
one_gone t n h keep [] all = omega arith
one_gone t n h keep (l ∷ ls) all = grind (arith, nat_tests, one_gone t n h keep ls all.1, keep l, count-cons t l ls, count-cons t, count_kept t t h (λ k. (k.tid == n) ≡ false) keep ls, lacks n ls, all.0)
