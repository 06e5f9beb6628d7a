-- Changes that touch few LWPs of a process.
use Rattle.trace_rows.proofs.CommonNames.{◌≡◌, ℕ, true, false, nat_tests, arith, refl, sym, ap, ◌∙◌, inl, inr, nat_eq, List, [], ◌∷◌, map, Some, None, LwpData, Differ, LacksLwp, lwp_of, lwp_of-tid, eq-eqb, subst, IsSomeAnd, own_lwp, with_lwp, without, edited, Rows, map_lwps, set_lwp}
use Rattle.trace_rows.specs.Edits.{only, of_others, settled, touched}
use Rattle.trace_rows.specs.CommonNames.{Edit, Post, Step, Detach, Stepping, Nothing, Due, opposed}
use Rattle.lwp_table.specs.Marks.{Spares, meets, no_traits, traits_of, is_due}
use Rattle.std.specs.Int.{bit_at}
use Rattle.std.specs.Int.RustNames.{bit_or}
use Rattle.std.proofs.lemmas.Nat.Bits.{bit_at_or, bit_at_xor, bit_at-lt, same_from_bits}
use Rattle.std.proofs.lemmas.Bool.Decides.{eqb_tells}
use Rattle.std.proofs.Math.Path.{fun_ext}
use Rattle.std.proofs.lemmas.Option.{same_Some}
use Rattle.lwp_table.specs.Lwps.{put_lwp}

-- what shares nothing with two sets loses nothing by them
without_two : (p a b : ℕ) → without p (bit_or a b) ≡ p → without (without p a) b ≡ p
without_two p a b none = same_from_bits _ _ (λ i. let is = ap (λ x. bit_at x i) none in
    simp (bit_at_or, bit_at_xor) (omega (arith, simp (bit_at_or, bit_at_xor) at is, bit_at-lt p i, bit_at-lt a i, bit_at-lt b i)))

-- what loses two sets loses their union
without_union : (p a b : ℕ) → without p (bit_or a b) ≡ without (without p a) b
without_union p a b = same_from_bits _ _ (λ i. simp (bit_at_or, bit_at_xor) (omega (arith, bit_at-lt p i, bit_at-lt a i, bit_at-lt b i)))

settled_posted : (s lost : ℕ) (l : LwpData) → settled (bit_or (opposed s) lost) l ≡ edited (Post s None lost) l
settled_posted s lost l = ap (λ x. record l { pending = x }) (without_union l.pending (opposed s) lost)

-- the post of a signal to a process settles its LWPs
pub posted_lwps : (pid s lost : ℕ) (rows : Rows) → map_lwps pid (settled (bit_or (opposed s) lost)) rows ≡ map_lwps pid (edited (Post s None lost)) rows
posted_lwps pid s lost rows = ap (λ f. map_lwps pid f rows) (fun_ext (settled_posted s lost))

nothing_due : (d : Due) → is_due d ≡ false → d ≡ Nothing
nothing_due d none = grind (arith, nat_tests)

-- an LWP without the touched traits stays as it is
module _ (l : LwpData) where
  pub settled_spared : (lost : ℕ) → meets (traits_of l) (record no_traits { pending = lost }) ≡ false → settled lost l ≡ l
  settled_spared lost apart = let is : without l.pending lost ≡ l.pending = grind (arith, nat_tests) in ap (λ x. record l { pending = x }) is

  posted_to_none : (s lost : ℕ) → meets (traits_of l) (touched (Post s None lost)) ≡ false → edited (Post s None lost) l ≡ l
  posted_to_none s lost apart = let is : without l.pending (bit_or (opposed s) lost) ≡ l.pending = grind (arith, nat_tests) in ap (λ x. record l { pending = x }) (without_two l.pending (opposed s) lost is)

  stepped : meets (traits_of l) (touched (Step Stepping.Nobody)) ≡ false → edited (Step Stepping.Nobody) l ≡ l
  stepped apart = let is : l.stepping ≡ false = grind (arith, nat_tests) in ap (λ x. record l { stepping = x }) (sym is)

  let_go : (lost unwanted : ℕ) → meets (traits_of l) (touched (Detach lost unwanted)) ≡ false → edited (Detach lost unwanted) l ≡ l
  let_go lost unwanted apart =
      let is : without l.pending (bit_or lost unwanted) ≡ l.pending = grind (arith, nat_tests) in
      let still : l.stepping ≡ false = grind (arith, nat_tests) in
      let free : l.suspended ≡ false = grind (arith, nat_tests) in
      let none : l.due ≡ Nothing = nothing_due l.due (grind (arith, nat_tests)) in
      ap (λ x. record l { stepping = false; suspended = false; due = Nothing; pending = x }) (without_two l.pending lost unwanted is)
      ∙ ap (λ x. record l { stepping = x; suspended = false; due = Nothing }) (sym still) ∙ ap (λ x. record l { suspended = x; due = Nothing }) (sym free) ∙ ap (λ x. record l { due = x }) (sym none)

pub spares : (e : Edit) → only e ≡ None → Spares (touched e) (edited e)
spares (Post s None lost) alike l apart = posted_to_none l s lost apart
spares (Post s (Some tid) lost) alike l apart = absurd (cc)
spares (Step Stepping.Unchanged) alike l apart = refl
spares (Step Stepping.Nobody) alike l apart = stepped l apart
spares (Step (Stepping.Only tid)) alike l apart = absurd (cc)
spares (Detach lost unwanted) alike l apart = let_go l lost unwanted apart

-- the change of the others is the same for all LWPs
pub others_alike : (e : Edit) → only (of_others e) ≡ None
others_alike e = grind (arith, nat_tests)

-- a change keeps LWPs' numbers and processes, and is the others' change except at one LWP
pub edited_tid : (e : Edit) (l : LwpData) → (edited e l).tid ≡ l.tid
edited_tid e l = grind arith

pub edited_pid : (e : Edit) (l : LwpData) → (edited e l).pid ≡ l.pid
edited_pid e l = grind arith

as_others : (e : Edit) (tid : ℕ) → only e ≡ Some tid → (l : LwpData) → nat_eq l.tid tid ≡ false → edited (of_others e) l ≡ edited e l
as_others (Post s None lost) tid is l off = refl
as_others (Post s (Some t) lost) tid is l off = grind (arith, nat_tests)
as_others (Step Stepping.Unchanged) tid is l off = refl
as_others (Step Stepping.Nobody) tid is l off = refl
as_others (Step (Stepping.Only t)) tid is l off = grind (arith, nat_tests)
as_others (Detach lost unwanted) tid is l off = refl

cons_same : {x y : LwpData} {xs ys : List LwpData} → x ≡ y → xs ≡ ys → x ∷ xs ≡ y ∷ ys
cons_same {x} {y} {xs} {ys} head tail = ap (λ z. z ∷ xs) head ∙ ap (λ zs. y ∷ zs) tail

-- LWPs that change alike, except one
module _ (pid tid : ℕ) (f g : LwpData → LwpData) (f_tid : (l : LwpData) → (f l).tid ≡ l.tid) (g_tid : (l : LwpData) → (g l).tid ≡ l.tid) (same : (l : LwpData) → nat_eq l.tid tid ≡ false → g l ≡ f l) where
  all_same : (xs : List LwpData) → LacksLwp tid xs → map (own_lwp pid g) xs ≡ map (own_lwp pid f) xs
  all_same [] lacks = refl
  all_same (x ∷ xs) lacks = grind (arith, nat_tests, all_same xs lacks.1, lacks.0, same x)

  put_none : (new : LwpData) → new.tid ≡ tid → (xs : List LwpData) → LacksLwp tid xs → with_lwp new (map (own_lwp pid g) xs) ≡ map (own_lwp pid f) xs
  put_none new its [] lacks = refl
  put_none new its (x ∷ xs) lacks = grind (arith, nat_tests, put_none new its xs lacks.1, lacks.0, same x, f_tid x)

  head_on : (l : LwpData) → nat_eq l.pid pid ≡ true → put_lwp (f l) (own_lwp pid g l) ≡ own_lwp pid f l
  head_on l own = rw (own, g_tid l, f_tid l, eq-eqb l.tid l.tid refl) refl

  head_off : (new x : LwpData) → new.tid ≡ tid → nat_eq x.tid tid ≡ false → put_lwp new (own_lwp pid g x) ≡ own_lwp pid f x
  head_off new x its off = grind (arith, nat_tests, g_tid x, same x)

  put_one : (l : LwpData) (xs : List LwpData) → Differ xs → lwp_of tid xs ≡ Some l → nat_eq l.pid pid ≡ true → with_lwp (f l) (map (own_lwp pid g) xs) ≡ map (own_lwp pid f) xs
  put_one l [] differ found own = absurd (cc)
  put_one l (x ∷ xs) differ found own = elim (eqb_tells x.tid tid) [
    | inl h ↦
        let is : x ≡ l = same_Some x l (rw h.0 at found) in
        cons_same (subst (λ y. put_lwp (f l) (own_lwp pid g y) ≡ own_lwp pid f y) (sym is) (head_on l own))
        (put_none (f l) (f_tid l ∙ (ap (λ (y : LwpData). y.tid) (sym is) ∙ h.1)) xs (subst (λ n. LacksLwp n xs) h.1 differ.0))
    | inr h ↦
        let there = rw h.0 at found in
        cons_same (head_off (f l) x (f_tid l ∙ lwp_of-tid tid l xs there) h.0) (put_one l xs differ.1 there own)
  ]

  all_others : (l : LwpData) (xs : List LwpData) → Differ xs → lwp_of tid xs ≡ Some l → nat_eq l.pid pid ≡ false → map (own_lwp pid g) xs ≡ map (own_lwp pid f) xs
  all_others l [] differ found off = refl
  all_others l (x ∷ xs) differ found off = grind (arith, nat_tests, all_others l xs differ.1, eqb_tells x.tid tid, all_same xs, same x)

  all_absent : (xs : List LwpData) → lwp_of tid xs ≡ None → map (own_lwp pid g) xs ≡ map (own_lwp pid f) xs
  all_absent [] none = refl
  all_absent (x ∷ xs) none = grind (arith, nat_tests, all_absent xs, same x)

module _ (e : Edit) (pid tid : ℕ) (is : only e ≡ Some tid) (rows : Rows) (differ : Differ rows.lwps) where
  pub edited-put : (l : LwpData) → lwp_of tid rows.lwps ≡ Some l → nat_eq l.pid pid ≡ true → set_lwp (edited e l) (map_lwps pid (edited (of_others e)) rows) ≡ map_lwps pid (edited e) rows
  edited-put l found own = ap (λ ls. record rows { lwps = ls }) (put_one pid tid (edited e) (edited (of_others e)) (edited_tid e) (edited_tid (of_others e)) (as_others e tid is) l rows.lwps differ found own)

  pub edited-other : (l : LwpData) → lwp_of tid rows.lwps ≡ Some l → nat_eq l.pid pid ≡ false → map_lwps pid (edited (of_others e)) rows ≡ map_lwps pid (edited e) rows
  edited-other l found off = ap (λ ls. record rows { lwps = ls }) (all_others pid tid (edited e) (edited (of_others e)) (edited_tid e) (edited_tid (of_others e)) (as_others e tid is) l rows.lwps differ found off)

  pub edited-absent : lwp_of tid rows.lwps ≡ None → map_lwps pid (edited (of_others e)) rows ≡ map_lwps pid (edited e) rows
  edited-absent none = ap (λ ls. record rows { lwps = ls }) (all_absent pid tid (edited e) (edited (of_others e)) (edited_tid e) (edited_tid (of_others e)) (as_others e tid is) rows.lwps none)

  -- the LWP is still there after the change of the others
  pub one_left : (l : LwpData) → lwp_of tid rows.lwps ≡ Some l → lwp_of tid (map (own_lwp pid (edited (of_others e))) rows.lwps) ≡ Some (own_lwp pid (edited (of_others e)) l)
  one_left l found = by rows.lwps found
    where
      by : (xs : List LwpData) → lwp_of tid xs ≡ Some l → lwp_of tid (map (own_lwp pid (edited (of_others e))) xs) ≡ Some (own_lwp pid (edited (of_others e)) l)
      by [] at = absurd (cc)
      by (x ∷ xs) at = grind (arith, nat_tests, by xs, edited_tid (of_others e) x)

  pub set_fits : (l : LwpData) → lwp_of tid rows.lwps ≡ Some l → nat_eq l.pid pid ≡ true → IsSomeAnd (lwp_of (edited e l).tid (map_lwps pid (edited (of_others e)) rows).lwps) (λ was. was.pid ≡ (edited e l).pid)
  set_fits l found own =
      let fits : (own_lwp pid (edited (of_others e)) l).pid ≡ (edited e l).pid = rw own (edited_pid (of_others e) l ∙ sym (edited_pid e l)) in
      let at : lwp_of (edited e l).tid (map (own_lwp pid (edited (of_others e))) rows.lwps) ≡ Some (own_lwp pid (edited (of_others e)) l) = ap (λ n. lwp_of n (map (own_lwp pid (edited (of_others e))) rows.lwps)) (edited_tid e l ∙ lwp_of-tid tid l rows.lwps found) ∙ one_left l found in
      subst (λ o. IsSomeAnd o (λ (was : LwpData). was.pid ≡ (edited e l).pid)) (sym at) fits
