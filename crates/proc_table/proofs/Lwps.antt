-- LWPs' numbers that differ, under edits of the rows.
use Rattle.proc_table.proofs.CommonNames.{nat_tests, ◌≡◌, ℕ, Bool, false, List, [], ◌∷◌, ◌++◌, map, sym, ◌∙◌, nat_eq, arith, filter, list_any, cases_Bool, LwpData, LacksLwp, Differ, with_lwp}
use Rattle.proc_table.proofs.CommonNames.{put-number, lacks-any}
use Rattle.proc_table.proofs.Every.{every_map, every_filter, every_append}

module _ (f : LwpData → LwpData) (same : (l : LwpData) → (f l).tid ≡ l.tid) where
  pub LacksLwp-map : (n : ℕ) (ls : List LwpData) → LacksLwp n ls → LacksLwp n (map f ls)
  LacksLwp-map n ls a = every_map (λ l. l.tid ≡ n → ⊥) (λ l. l.tid ≡ n → ⊥) f (λ l h e. h (sym (same l) ∙ e)) ls a

  pub Differ-map : (ls : List LwpData) → Differ ls → Differ (map f ls)
  Differ-map [] r = tt
  Differ-map (l ∷ ls) r = (rw (same l) (LacksLwp-map l.tid ls r.0), Differ-map ls r.1)

module _ (test : LwpData → Bool) where
  pub Differ-filter : (ls : List LwpData) → Differ ls → Differ (filter test ls)
  Differ-filter [] r = grind (arith, nat_tests)
  Differ-filter (l ∷ ls) r = grind (arith, nat_tests, Differ-filter ls r.1, cases_Bool (test l), every_filter (λ k. k.tid ≡ l.tid → ⊥) (λ k. k.tid ≡ l.tid → ⊥) test (λ k e h. h) ls r.0)

pub Differ-with_lwp : (new : LwpData) (ls : List LwpData) → Differ ls → Differ (with_lwp new ls)
Differ-with_lwp new ls r = grind (arith, nat_tests, Differ-map, put-number)

pub LacksLwp-from_any : (n : ℕ) (ls : List LwpData) → list_any (λ l. nat_eq l.tid n) ls ≡ false → LacksLwp n ls
LacksLwp-from_any n ls none = lacks-any (λ (l : LwpData). l.tid) n ls none

pub Differ-push : (ls : List LwpData) (l : LwpData) → Differ ls → LacksLwp l.tid ls → Differ (ls ++ (l ∷ []))
Differ-push [] l d a = (tt, tt)
Differ-push (k ∷ ls) l d a = (every_append (λ m. m.tid ≡ k.tid → ⊥) ls (l ∷ []) d.0 ((λ e. a.0 (sym e)), tt), Differ-push ls l d.1 a.1)
