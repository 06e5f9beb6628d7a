-- What the keys of an object say, once a member is put into it.
use Rattle.scenario_text.proofs.CommonNames.{⊤, ◌≡◌, ℕ, ◌⊎◌, inl, inr, List, [], ◌∷◌, Option, Some, None, true, false, Ordering, Less, Equal, Greater, nat_cmp, is_eq, refl, sym, ap, ap₂, ◌∙◌, arith}
use Rattle.scenario_text.proofs.CommonNames.{bit_or, fun_ext, cases_Bool, is_eq-slice_cmp, bit_at_or, same_from_bits, bytes_eq-Decides, slice_cmp, match_ordering, if◌then◌else◌, bytes_eq, Data}
use Rattle.scenario_text.proofs.CommonNames.{Members, no_members, member, put, get_member, get_member-put, get_member-put_other, Keys, ◌∪◌, key_named, key_rows, keys_in, set_named, named}
use Rattle.scenario_text.proofs.CommonNames.{rule_fields_by, rule_fields_in, fields_by, fields_in, with_named, with_named_rule}
use Rattle.std.specs.Prelude.{codes}

twice : (a b : Keys) → a ∪ b ≡ a ∪ (a ∪ b)
twice a b = ap (λ (n : ℕ). record { 0 = n }) (same_from_bits (bit_or a.0 b.0) (bit_or a.0 (bit_or a.0 b.0))
    (λ i. let l = bit_at_or a.0 b.0 i in let r = bit_at_or a.0 (bit_or a.0 b.0) i in omega (arith, l, r)))

turned : (a b c : Keys) → b ∪ (a ∪ c) ≡ a ∪ (b ∪ c)
turned a b c = ap (λ (n : ℕ). record { 0 = n }) (same_from_bits (bit_or b.0 (bit_or a.0 c.0)) (bit_or a.0 (bit_or b.0 c.0))
    (λ i. let p = bit_at_or b.0 (bit_or a.0 c.0) i in let q = bit_at_or a.0 c.0 i in let r = bit_at_or a.0 (bit_or b.0 c.0) i in let s = bit_at_or b.0 c.0 i in omega (arith, p, q, r, s)))

put_at : (o : Ordering) (k l : List ℕ) (d e : Data) (ms : Members) → slice_cmp nat_cmp k l ≡ o → keys_in (put k d ms) ≡ set_named (key_named k) ∪ keys_in ms
    → keys_in (match_ordering o (member k d (member l e ms)) (member l d ms) (member l e (put k d ms))) ≡ set_named (key_named k) ∪ keys_in (member l e ms)
put_at Less k l d e ms is later = refl
put_at Equal k l d e ms is later =
    let same : k ≡ l = (bytes_eq-Decides k l).0 (sym (is_eq-slice_cmp k l) ∙ ap is_eq is) in
    rw same (twice (set_named (key_named l)) (keys_in ms))
put_at Greater k l d e ms is later =
    ap (λ ks. set_named (key_named l) ∪ ks) later ∙ turned (set_named (key_named k)) (set_named (key_named l)) (keys_in ms)

-- a member that is put in adds its key
pub keys_in-put : (k : List ℕ) (d : Data) (ms : Members) → keys_in (put k d ms) ≡ set_named (key_named k) ∪ keys_in ms
keys_in-put k d no_members = refl
keys_in-put k d (member l e ms) = put_at _ k l d e ms refl (keys_in-put k d ms)

-- what is found at a key once a member is put in
abbrev found : List ℕ → Data → Members → List ℕ → Option Data
found k d ms q = if bytes_eq k q then Some d else get_member q ms

found-put : (k : List ℕ) (d : Data) (ms : Members) (q : List ℕ) → get_member q (put k d ms) ≡ found k d ms q
found-put k d ms q = grind (arith, get_member-put, get_member-put_other, bytes_eq-Decides)

-- a fact of every row of a table, and of a text that is in none
abbrev OfRows : {X : Type 0} → (List ℕ → Option X → Type 0) → List (List ℕ × X) → Type 0
OfRows P [] = ⊤
OfRows P (row ∷ rows) = P row.0 (Some row.1) × OfRows P rows

abbrev IsInNone : {X : Type 0} → List (List ℕ × X) → List ℕ → Type 0
IsInNone [] text = ⊤
IsInNone (row ∷ rows) text = (bytes_eq text row.0 ≡ false) × IsInNone rows text

at_row : {X : Type 0} (P : List ℕ → Option X → Type 0) (rows : List (List ℕ × X)) (text : List ℕ) (row : List ℕ × X) → P row.0 (Some row.1)
    → ((bytes_eq text row.0 ≡ true) ⊎ (bytes_eq text row.0 ≡ false)) → (bytes_eq text row.0 ≡ false → P text (named rows text)) → P text (named (row ∷ rows) text)
at_row P rows text row here (inl e) later = let same : text ≡ row.0 = (bytes_eq-Decides text row.0).0 e in rw (e, same) here
at_row P rows text row here (inr e) later = rw e (later e)

of_named : {X : Type 0} (P : List ℕ → Option X → Type 0) (rows : List (List ℕ × X)) (text : List ℕ) → OfRows P rows → (IsInNone rows text → P text None) → P text (named rows text)
of_named P [] text each none = none tt
of_named P (row ∷ rows) text each none = at_row P rows text row each.0 (cases_Bool (bytes_eq text row.0)) (λ e. of_named P rows text each.1 (λ h. none (e, h)))

module _ (d : Data) (ms : Members) where
  put_fields : (k : List ℕ) → fields_in (put k d ms) ≡ fields_by (found k d ms) (set_named (key_named k) ∪ keys_in ms)
  put_fields k = ap₂ fields_by (fun_ext (found-put k d ms)) (keys_in-put k d ms)

  put_rule : (k : List ℕ) → rule_fields_in (put k d ms) ≡ rule_fields_by (found k d ms) (set_named (key_named k) ∪ keys_in ms)
  put_rule k = ap₂ rule_fields_by (fun_ext (found-put k d ms)) (keys_in-put k d ms)

  -- a member of this name is put into a step, and into a rule
  pub fields_in-put : (k : List ℕ) → fields_in (put k d ms) ≡ with_named (key_named k) d (fields_in ms)
  fields_in-put k = of_named (λ q o. fields_in (put q d ms) ≡ with_named o d (fields_in ms)) key_rows k
      -- tools/format keys of steps
      (put_fields (codes "user"), (put_fields (codes "op"), (put_fields (codes "caller"), (put_fields (codes "lwp"), (put_fields (codes "act"), (put_fields (codes "which"), (put_fields (codes "request"), (put_fields (codes "target"), (put_fields (codes "data"), (put_fields (codes "call"), (put_fields (codes "code"), (put_fields (codes "signal"), (put_fields (codes "options"), (put_fields (codes "action"), (put_fields (codes "rules"), (put_fields (codes "set"), (put_fields (codes "mask"), (put_fields (codes "flags"), (put_fields (codes "decision"), (put_fields (codes "pass"), tt))))))))))))))))))))
      (λ h. put_fields k ∙ rw (h.0, h.1.0, h.1.1.0, h.1.1.1.0, h.1.1.1.1.0, h.1.1.1.1.1.0, h.1.1.1.1.1.1.0, h.1.1.1.1.1.1.1.0, h.1.1.1.1.1.1.1.1.0, h.1.1.1.1.1.1.1.1.1.0, h.1.1.1.1.1.1.1.1.1.1.0, h.1.1.1.1.1.1.1.1.1.1.1.0, h.1.1.1.1.1.1.1.1.1.1.1.1.0, h.1.1.1.1.1.1.1.1.1.1.1.1.1.0, h.1.1.1.1.1.1.1.1.1.1.1.1.1.1.0, h.1.1.1.1.1.1.1.1.1.1.1.1.1.1.1.0, h.1.1.1.1.1.1.1.1.1.1.1.1.1.1.1.1.0, h.1.1.1.1.1.1.1.1.1.1.1.1.1.1.1.1.1.0, h.1.1.1.1.1.1.1.1.1.1.1.1.1.1.1.1.1.1.0, h.1.1.1.1.1.1.1.1.1.1.1.1.1.1.1.1.1.1.1.0) refl)
      -- end

  pub rule_fields_in-put : (k : List ℕ) → rule_fields_in (put k d ms) ≡ with_named_rule (key_named k) d (rule_fields_in ms)
  rule_fields_in-put k = of_named (λ q o. rule_fields_in (put q d ms) ≡ with_named_rule o d (rule_fields_in ms)) key_rows k
      -- tools/format keys of rules
      (put_rule (codes "user"), (put_rule (codes "op"), (put_rule (codes "caller"), (put_rule (codes "lwp"), (put_rule (codes "act"), (put_rule (codes "which"), (put_rule (codes "request"), (put_rule (codes "target"), (put_rule (codes "data"), (put_rule (codes "call"), (put_rule (codes "code"), (put_rule (codes "signal"), (put_rule (codes "options"), (put_rule (codes "action"), (put_rule (codes "rules"), (put_rule (codes "set"), (put_rule (codes "mask"), (put_rule (codes "flags"), (put_rule (codes "decision"), (put_rule (codes "pass"), tt))))))))))))))))))))
      (λ h. put_rule k ∙ rw (h.0, h.1.0, h.1.1.0, h.1.1.1.0, h.1.1.1.1.0, h.1.1.1.1.1.0, h.1.1.1.1.1.1.0, h.1.1.1.1.1.1.1.0, h.1.1.1.1.1.1.1.1.0, h.1.1.1.1.1.1.1.1.1.0, h.1.1.1.1.1.1.1.1.1.1.0, h.1.1.1.1.1.1.1.1.1.1.1.0, h.1.1.1.1.1.1.1.1.1.1.1.1.0, h.1.1.1.1.1.1.1.1.1.1.1.1.1.0, h.1.1.1.1.1.1.1.1.1.1.1.1.1.1.0, h.1.1.1.1.1.1.1.1.1.1.1.1.1.1.1.0, h.1.1.1.1.1.1.1.1.1.1.1.1.1.1.1.1.0, h.1.1.1.1.1.1.1.1.1.1.1.1.1.1.1.1.1.0, h.1.1.1.1.1.1.1.1.1.1.1.1.1.1.1.1.1.1.0, h.1.1.1.1.1.1.1.1.1.1.1.1.1.1.1.1.1.1.1.0) refl)
      -- end
