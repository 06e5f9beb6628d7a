-- A script, step by step.
use Rattle.std.proofs.Common.{◌≡◌, ℕ, ◌+◌, Bool, true, false, cond, List, [], ◌∷◌, ◌++◌, length, reverse, sym, refl, ap, ◌∙◌, arith, append_assoc, append-nil, length-append, MatchBool}
use Rattle.sessions.proofs.CommonNames.{reverse-append, PlainStep, is_memory, Entry, entry, made, HasMade, Pairs, StartsWith, SessionData, Makes, AnswersCall}
use Rattle.step_types.specs.declared.Reply.{Reply}
use Rattle.host_lock.specs.declared.host.Answer.TheVariants.{Reply as Answered}

abbrev pub one : ℕ → ℕ → PlainStep → Reply → List Entry
one u n s r = cond (is_memory r) [] (entry u n s r ∷ [])

pub made_more : (u n : ℕ) (ss : List PlainStep) (rs : List Reply) (s : PlainStep) (r : Reply) → length rs ≡ length ss → made u n (ss ++ s ∷ []) (rs ++ r ∷ []) ≡ made u n ss rs ++ one u n s r
made_more u n [] [] s r e = refl
made_more u n [] (q ∷ rs) s r e = absurd (omega arith)
made_more u n (t ∷ ss) [] s r e = absurd (omega arith)
made_more u n (t ∷ ss) (q ∷ rs) s r e = grind (arith, e, made_more u n ss rs s r)

-- the next step of a reversed list
pub next_step : {A : Type 0} (all done rem rem' : List A) (s : A) → all ≡ done ++ reverse rem → rem ≡ rem' ++ s ∷ [] → all ≡ (done ++ s ∷ []) ++ reverse rem'
next_step all done rem rem' s is was =
    is ∙ ap (λ l. done ++ reverse l) was ∙ ap (λ l. done ++ l) (reverse-append rem' (s ∷ [])) ∙ sym (append_assoc done (s ∷ []) (reverse rem'))

mine_more : (w w' : SessionData) (s : PlainStep) (r : Reply) (b : Bool) → MatchBool b (StartsWith w'.known w.known × (w'.mine ≡ w.mine)) (Makes w s r w') → w'.mine ≡ w.mine ++ cond b [] (entry w.uid w.number s r ∷ [])
mine_more w w' s r true t = t.1 ∙ sym (append-nil w.mine)
mine_more w w' s r false t = t.3

pub did_more : (v w w' : SessionData) (done : List PlainStep) (s : PlainStep) (rs rs' : List Reply) (r : Reply) → HasMade v done rs w → AnswersCall w s (Answered r) w' → rs' ≡ rs ++ r ∷ [] → HasMade v (done ++ s ∷ []) rs' w'
did_more v w w' done s rs rs' r d c is =
    let goes = c.1.0 in
    rw is (
      length-append rs (r ∷ []) ∙ ap (λ (k : ℕ). k + 1) d.0 ∙ sym (length-append done (s ∷ [])),
      goes.0 ∙ d.1,
      goes.1 ∙ d.2,
      goes.3 ∙ d.3,
      goes.4 ∙ d.4,
      goes.2 ∙ ap (λ (k : ℕ). k + 1) d.5 ∙ sym (length-append done (s ∷ [])),
      mine_more w w' s r (is_memory r) c.1.1 ∙ ap (λ (z : List Entry × ℕ × ℕ). z.0 ++ one z.1 z.2 s r) (λ i. (d.6 i, d.1 i, d.2 i)) ∙ sym (made_more v.uid v.number done rs s r d.0),
    )

pub pairs_more : {A B : Type 0} (R : A → B → Type 0) (xs : List A) (ys : List B) (x : A) (y : B) → Pairs R xs ys → R x y → Pairs R (xs ++ x ∷ []) (ys ++ y ∷ [])
pairs_more R [] [] x y p r = (r, tt)
pairs_more R [] (b ∷ ys) x y p r = absurd p
pairs_more R (a ∷ xs) [] x y p r = absurd p
pairs_more R (a ∷ xs) (b ∷ ys) x y p r = (p.0, pairs_more R xs ys x y p.1 r)
