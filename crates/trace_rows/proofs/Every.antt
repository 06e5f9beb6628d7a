-- A fact of each element of a list, and tests and counts on lists.
use Rattle.trace_rows.proofs.CommonNames.{◌≤◌, nat_tests, AllByRecursion, list_any, list_all, ◌≡◌, ◌+◌, List, [], ◌∷◌, ◌++◌, filter, find, filter_map, Bool, true, false, cond, not, ◌&&◌, ◌||◌, Option, Some, None, IfSome, refl, sym}
use Rattle.trace_rows.proofs.CommonNames.{arith, true≢false, if◌then◌else◌, is_some, count_by, every_found}
use Rattle.std.proofs.lemmas.List.Elements.{All-from_recursion, recursion_from_All}
use Rattle.std.proofs.lemmas.List.Sums.{AllPass-from_list_all, list_all-from_AllPass, sum_by-append}
use Rattle.proc_table.proofs.Every.{every_filter, found_tested}
pub use Rattle.lwp_table.proofs.Numbered.{count-cons}
pub use Rattle.proc_table.proofs.Every.{every_weaken as All-imply, every_both as All-both, every_append as All-append}
pub use Rattle.std.proofs.lemmas.Bool.{eqb-false as not_same, cond_both, and_from as both, or_left, or_right, false_from_ne_true as by_bool, not-true as not_true}

pub and_left : (a b : Bool) → (a && b) ≡ true → a ≡ true
and_left a b is = grind (arith, is)

pub and_right : (a b : Bool) → (a && b) ≡ true → b ≡ true
and_right a b is = grind (arith, is)

pub implies_at : (a b : Bool) → (not a || b) ≡ true → a ≡ true → b ≡ true
implies_at a b is it = grind (arith, is, it)

pub implies_from : (a b : Bool) → (a ≡ true → b ≡ true) → (not a || b) ≡ true
implies_from a b h = grind (arith, h)

pub or_true : (b : Bool) → (b || true) ≡ true
or_true b = grind arith

-- either way of a choice, and of two
pub choose : {X : Type 0} (b : Bool) (x y : X) (R : X → Type 0) → (b ≡ true → R x) → (b ≡ false → R y) → R (if b then x else y)
choose b x y R h k = cond_both b x y R h k

pub choose_both : {X Y : Type 0} (R : X → Y → Type 0) (b : Bool) (x y : X) (v w : Y) → (b ≡ true → R x v) → (b ≡ false → R y w) → R (if b then x else y) (if b then v else w)
choose_both R b x y v w h k = grind (arith, h, k)

-- what isn't there
pub not_some : {X : Type 0} (o : Option X) → is_some o ≡ false → o ≡ None
not_some o is = grind (arith, is)

-- a fact of each element

pub All-from_list_all : {X : Type 0} (q : X → Bool) (xs : List X) → list_all q xs ≡ true → AllByRecursion (λ x. q x ≡ true) xs
All-from_list_all q xs is = recursion_from_All _ xs (AllPass-from_list_all q xs is)

pub list_all-from_All : {X : Type 0} (q : X → Bool) (xs : List X) → AllByRecursion (λ x. q x ≡ true) xs → list_all q xs ≡ true
list_all-from_All q xs all = list_all-from_AllPass q xs (All-from_recursion _ xs all)

pub All-any : {X : Type 0} (P : X → Type 0) → ((x : X) → P x) → (xs : List X) → AllByRecursion P xs
All-any P h [] = tt
All-any P h (x ∷ xs) = (h x, All-any P h xs)

pub All-filter : {X : Type 0} (q : X → Bool) (P : X → Type 0) (xs : List X) → AllByRecursion P xs → AllByRecursion P (filter q xs)
All-filter q P = every_filter P P q (λ x e h. h)

pub All-edit : {X Y : Type 0} (f : X → Option Y) (P : X → Type 0) (Q : Y → Type 0) → ((x : X) → P x → IfSome (f x) Q) → (xs : List X) → AllByRecursion P xs → AllByRecursion Q (filter_map f xs)
All-edit f P Q h [] all = tt
All-edit {X} {Y} f P Q h (x ∷ xs) all = grind (arith, nat_tests, All-edit f P Q h xs all.1)

pub find_some : {X : Type 0} (q : X → Bool) (P : X → Type 0) (xs : List X) → AllByRecursion P xs → (x : X) → find q xs ≡ Some x → P x × (q x ≡ true)
find_some q P xs all x is = (every_found P q xs x all is, found_tested q xs x is)

-- what holds of every element holds of one that passes
pub any_holds : {X : Type 0} (q : X → Bool) (P : X → Type 0) (R : Type 0) → ((x : X) → P x → q x ≡ true → R) → (xs : List X) → AllByRecursion P xs → list_any q xs ≡ true → R
any_holds q P R h [] all is = absurd (true≢false (sym is))
any_holds q P R h (x ∷ xs) all is = grind (arith, is, h x all.0, any_holds q P R h xs all.1)

-- one that is found passes another test, if that holds of it
pub find_passes : {X : Type 0} (q t : X → Bool) (xs : List X) (x : X) → find q xs ≡ Some x → t x ≡ true → list_any t xs ≡ true
find_passes q t [] x is pass = absurd (cc)
find_passes q t (y ∷ xs) x is pass = grind (arith, find_passes q t xs x, is, pass)

pub find_none : {X : Type 0} (q : X → Bool) (xs : List X) → AllByRecursion (λ x. q x ≡ false) xs → find q xs ≡ None
find_none q [] all = refl
find_none q (x ∷ xs) all = rw (all.0, find_none q xs all.1) refl

pub none_of : {X : Type 0} (q : X → Bool) (xs : List X) → list_any q xs ≡ false → AllByRecursion (λ x. q x ≡ false) xs
none_of q [] is = tt
none_of q (x ∷ xs) is = grind (arith, is, none_of q xs)

pub none_passes : {X : Type 0} (q : X → Bool) (P : X → Type 0) → ((x : X) → P x → q x ≡ false) → (xs : List X) → AllByRecursion P xs → list_any q xs ≡ false
none_passes q P h [] all = refl
none_passes q P h (x ∷ xs) all = rw (h x all.0) (none_passes q P h xs all.1)

pub any_more : {X : Type 0} (q t : X → Bool) → ((x : X) → q x ≡ true → t x ≡ true) → (xs : List X) → list_any q xs ≡ true → list_any t xs ≡ true
any_more q t h [] is = is
any_more q t h (x ∷ xs) is = grind (arith, is, h x, any_more q t h xs)

-- one that passes is followed by one that passes
pub any_forward : {X : Type 0} (q t : X → Bool) (P : X → Type 0) (f : X → Option X) → ((x : X) → P x → q x ≡ true → (y : X) × (f x ≡ Some y) × (t y ≡ true)) → (xs : List X) → AllByRecursion P xs → list_any q xs ≡ true → list_any t (filter_map f xs) ≡ true
any_forward q t P f h [] all is = is
any_forward {X} q t P f h (x ∷ xs) all is = grind (arith, nat_tests, any_forward q t P f h xs all.1)

pub count-append : {X : Type 0} (q : X → Bool) (xs ys : List X) → count_by q (xs ++ ys) ≡ count_by q xs + count_by q ys
count-append q xs ys = sum_by-append (λ y. cond (q y) 1 0) xs ys

-- of elements that pass a test, and pass another
pub count_more : {X : Type 0} (q t : X → Bool) (xs : List X) → AllByRecursion (λ x. q x ≡ true → t x ≡ true) xs → count_by q xs ≤ count_by t xs
count_more q t [] all = omega arith
count_more q t (x ∷ xs) all = grind (arith, all.0, count-cons q x xs, count-cons t x xs, count_more q t xs all.1)

-- tests that agree on each element
pub count_same : {X : Type 0} (q t : X → Bool) (xs : List X) → AllByRecursion (λ x. q x ≡ t x) xs → count_by q xs ≡ count_by t xs
count_same q t [] all = refl
count_same q t (x ∷ xs) all = grind (arith, all.0, count-cons q x xs, count-cons t x xs, count_same q t xs all.1)
