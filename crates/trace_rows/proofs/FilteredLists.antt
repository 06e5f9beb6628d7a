-- Filters, and what is looked up in a filtered list.
use Rattle.std.proofs.Common.{◌≡◌, ◌<◌, List, [], ◌∷◌, map, filter, find, filter_map, Bool, true, false, Option, Some, None, IfSome, refl, arith, ltb}
use Rattle.trace_rows.proofs.CommonNames.{nat_tests, AllByRecursion, cons_option, ProcData, placed, AllAbove, Rise}
use Rattle.std.proofs.lemmas.List.Elements.{filter-append}
use Rattle.proc_table.proofs.Every.{every_filter}
pub use Rattle.proc_table.proofs.OwnRows.{find-only as find_only, any-only as any_only}
use Rattle.trace_rows.proofs.Every.{All-any, All-both, All-edit}
use Rattle.proc_table.proofs.Placed.{stands}
use Rattle.trace_rows.proofs.Placed.{IsFree}

pub find_some : {X : Type 0} (q : X → Bool) (P : X → Type 0) → (xs : List X) → AllByRecursion P xs → IfSome (find q xs) (λ x. P x × (q x ≡ true))
find_some q P [] e = tt
find_some q P (x ∷ xs) e = grind (arith, e.0, find_some q P xs e.1)

-- What asks for elements that pass a test doesn't see the others

module _ {X : Type 0} (q p : X → Bool) (P : X → Type 0) (h : (x : X) → P x → q x ≡ true → p x ≡ true) where
  pub filter_only : (xs : List X) → AllByRecursion P xs → filter q (filter p xs) ≡ filter q xs
  filter_only [] e = refl
  filter_only (x ∷ xs) e = grind (arith, h x e.0, filter_only xs e.1)

module _ {X : Type 0} (p : X → Bool) (f : X → Option X) (P : X → Type 0) where
  pub filter_edit : ((x : X) → P x → IfSome (f x) (λ y. p y ≡ p x)) → (xs : List X) → AllByRecursion P xs → filter p (filter_map f xs) ≡ filter_map f (filter p xs)
  filter_edit h [] e = refl
  filter_edit h (x ∷ xs) e = grind (arith, h x e.0, filter_edit h xs e.1)

  pub filter_untouched : ((x : X) → P x → p x ≡ true → f x ≡ Some x) → ((x : X) → P x → p x ≡ false → IfSome (f x) (λ y. p y ≡ false)) → (xs : List X) → AllByRecursion P xs → filter p (filter_map f xs) ≡ filter p xs
  filter_untouched same other [] e = refl
  filter_untouched same other (x ∷ xs) e = grind (arith, same x e.0, other x e.0, filter_untouched same other xs e.1)

  -- what is found, once each has been changed
  pub find_edit : ((x : X) → P x → IfSome (f x) (λ y. p y ≡ p x)) → (xs : List X) → AllByRecursion P xs → (x y : X) → find p xs ≡ Some x → f x ≡ Some y → find p (filter_map f xs) ≡ Some y
  find_edit h [] e x y is to = grind (arith, is)
  find_edit h (z ∷ xs) e x y is to = grind (arith, h z e.0, is, to, find_edit h xs e.1 x y)

pub filter_map_only : {X Y : Type 0} (f : X → Option Y) (p : X → Bool) (P : X → Type 0) → ((x : X) → P x → p x ≡ false → f x ≡ None) → (xs : List X) → AllByRecursion P xs → filter_map f (filter p xs) ≡ filter_map f xs
filter_map_only f p P h [] e = refl
filter_map_only f p P h (x ∷ xs) e = grind (arith, h x e.0, filter_map_only f p P h xs e.1)

pub filter_same : {X : Type 0} (q d : X → Bool) → (P : X → Type 0) → ((x : X) → P x → q x ≡ d x) → (xs : List X) → AllByRecursion P xs → filter q xs ≡ filter d xs
filter_same q d P h [] e = refl
filter_same q d P h (x ∷ xs) e = grind (arith, h x e.0, filter_same q d P h xs e.1)

pub filter-none : {X : Type 0} (p : X → Bool) (P : X → Type 0) → ((x : X) → P x → p x ≡ false) → (xs : List X) → AllByRecursion P xs → filter p xs ≡ []
filter-none p P h [] e = refl
filter-none p P h (x ∷ xs) e = grind (arith, h x e.0, filter-none p P h xs e.1)

pub filter-all : {X : Type 0} (p : X → Bool) (P : X → Type 0) → ((x : X) → P x → p x ≡ true) → (xs : List X) → AllByRecursion P xs → filter p xs ≡ xs
filter-all p P h [] e = refl
filter-all p P h (x ∷ xs) e = grind (arith, h x e.0, filter-all p P h xs e.1)

filter-swap : {X : Type 0} (p q : X → Bool) (xs : List X) → filter p (filter q xs) ≡ filter q (filter p xs)
filter-swap p q [] = refl
filter-swap p q (x ∷ xs) = grind (arith, filter-swap p q xs)

-- Facts of each element

pub All-where : {X : Type 0} (q : X → Bool) (P Q : X → Type 0) → ((x : X) → P x → q x ≡ true → Q x) → (xs : List X) → AllByRecursion P xs → AllByRecursion Q (filter q xs)
All-where q P Q h = every_filter P Q q (λ x is p. h x p is)

pub All-map : {X Y : Type 0} (f : X → Y) (P : X → Type 0) (Q : Y → Type 0) → ((x : X) → P x → Q (f x)) → (xs : List X) → AllByRecursion P xs → AllByRecursion Q (map f xs)
All-map f P Q h [] e = tt
All-map f P Q h (x ∷ xs) e = (h x e.0, All-map f P Q h xs e.1)

pub every : {X : Type 0} (xs : List X) → AllByRecursion (λ x. Unit {0}) xs
every xs = All-any (λ x. Unit {0}) (λ x. tt) xs

-- Rising order

pub Rise-edit : (f : ProcData → Option ProcData) (P : ProcData → Type 0) → ((r : ProcData) → P r → IfSome (f r) (λ s. s.pid ≡ r.pid)) → (rows : List ProcData) → AllByRecursion P rows → Rise rows → Rise (filter_map f rows)
Rise-edit f P h [] p e = tt
Rise-edit f P h (r ∷ rows) p e = kept (f r) (h r p.0) (Rise-edit f P h rows p.1 e.1) (All-edit f (λ x. P x × (r.pid < x.pid)) (λ x. r.pid < x.pid) (λ x lt. let is = h x lt.0 in grind (arith, is, lt.1)) rows (All-both P (λ x. r.pid < x.pid) rows p.1 e.0))
  where
    kept : (o : Option ProcData) → IfSome o (λ s. s.pid ≡ r.pid) → Rise (filter_map f rows) → AllAbove r.pid (filter_map f rows) → Rise (cons_option o (filter_map f rows))
    kept None g rest all = rest
    kept (Some s) g rest all = (rw g all, rest)

-- a new row is placed among those that pass, or is none of them
pub placed-only : (p : ProcData → Bool) (r : ProcData) (rows : List ProcData) → p r ≡ true → filter p (placed r rows) ≡ placed r (filter p rows)
placed-only p r rows is = rw (filter-append p (filter (λ x. ltb x.pid r.pid) rows) (r ∷ filter (λ x. ltb r.pid x.pid) rows), is, filter-swap p (λ x. ltb x.pid r.pid) rows, filter-swap p (λ x. ltb r.pid x.pid) rows) refl

pub placed-other : (p : ProcData → Bool) (r : ProcData) (rows : List ProcData) → p r ≡ false → Rise rows → IsFree r.pid rows → filter p (placed r rows) ≡ filter p rows
placed-other p r [] is e free = rw is refl
placed-other p r (q ∷ rows) is e free = grind (arith, nat_tests, stands r q rows e, is, free, placed-other p r rows is e.1)
