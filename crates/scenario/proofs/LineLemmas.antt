-- The lines of a user's replies, and one more.
use Rattle.std.proofs.Common.{◌≡◌, ℕ, ◌+◌, ◌<◌, ◌^◌, true, false, List, [], ◌∷◌, ◌++◌, length, Option, Some, None, IfSome, String, string_bytes, refl, sym, ap, ◌∙◌, arith, append_assoc, append-nil, length-append}
use Rattle.scenario.proofs.CommonNames.{eq-eqb, Global, Reply, Answered, Style, answered, shown, told_to, AreMade}
use Rattle.step_types.specs.Replies.{is_memory}
use Rattle.scenario_runs.specs.Lines.{line, shown_line}
use Rattle.scenario_runs.proofs.LineLemmas.{counted_one, replies_to, shown_after, shown_none, shown_whole, text_next}
use Rattle.scenario.specs.declared.lines.LineDraft.{LineDraft}
use Rattle.scenario.specs.declared.lines.LineReport.{LineReport}
use Rattle.scenario.specs.Scripts.{DrawnUp}
use Rattle.scenario.specs.Unseen.{unseen_in}

after_more : (style : Style) (user : Option ℕ) (u : ℕ) (rs : List Reply) (r : Reply) (before : List ℕ) (number : ℕ) → number ≡ replies_to u before + length rs + 1
    → shown_after style user before (told_to u (rs ++ r ∷ [])) ≡ shown_after style user before (told_to u rs) ++ shown_line user (line style number (answered (u, r)))
after_more style user u [] r before number is =
    let last = shown_line user (line style number (answered (u, r))) in
    let next = text_next style user (answered (u, r)) [] before number [] last (shown_after style user before (answered (u, r) ∷ [])) (omega (arith, is)) refl refl in
    let none = shown_none style user before in
    let none' = shown_none style user (u ∷ before) in
    sym next ∙ ap (λ xs. last ++ xs) none' ∙ append-nil last ∙ sym (ap (λ xs. xs ++ last) none)
after_more style user u (q ∷ rs) r before number is =
    let head = shown_line user (line style (replies_to u before + 1) (answered (u, q))) in
    let first = λ (rest : List Answered). text_next style user (answered (u, q)) rest before (replies_to u before + 1) [] head (shown_after style user before (answered (u, q) ∷ rest)) refl refl refl in
    let one = counted_one u u before true (eq-eqb u u refl) in
    sym (first (told_to u (rs ++ r ∷ []))) ∙ ap (λ xs. head ++ xs) (after_more style user u rs r (u ∷ before) number (omega (arith, is, one))) ∙ sym (append_assoc head _ _)
    ∙ ap (λ xs. xs ++ shown_line user (line style number (answered (u, r)))) (first (told_to u rs))

-- what is shown of a user's replies and one more
pub shown_more : (style : Style) (user : Option ℕ) (u : ℕ) (rs : List Reply) (r : Reply) (number : ℕ) → number ≡ length rs + 1
    → shown style user (told_to u (rs ++ r ∷ [])) ≡ shown style user (told_to u rs) ++ shown_line user (line style number (answered (u, r)))
shown_more style user u rs r number is =
    sym (shown_whole style user (told_to u (rs ++ r ∷ []))) ∙ after_more style user u rs r [] number (omega (arith, is)) ∙ ap (λ xs. xs ++ shown_line user (line style number (answered (u, r)))) (shown_whole style user (told_to u rs))

made_more : (rs : List Reply) (r : Reply) → AreMade rs → is_memory r ≡ false → AreMade (rs ++ r ∷ [])
made_more [] r made is = (is, tt)
made_more (q ∷ rs) r made is = (made.0, made_more rs r made.1 is)

-- the text with one more line, if memory didn't run out
abbrev pub IsLonger : LineDraft → Reply → ℕ → String Global → Type 0
IsLonger d r number new =
    (is_memory r ≡ false) × (old : String Global) × (d.text ≡ Some old) × (string_bytes new ≡ string_bytes old ++ shown_line d.options.user (line d.options.style number (answered (d.uid, r))))

-- a draft with one more reply
pub drawn_more : (d : LineDraft) (report : LineReport) (u left : ℕ) (before : List Reply) (r : Reply) (number : ℕ) (text : Option (String Global)) (seen : List Reply) → seen ≡ unseen_in d.replies ++ r ∷ []
    → (d.number + 1 < 2 ^ 64 → number ≡ d.number + 1) → IfSome text (IsLonger d r number) → DrawnUp d report u (left + 1) before
    → (d.options ≡ report.options) × (d.uid ≡ u) × (seen ≡ before ++ r ∷ []) × (number ≡ length (before ++ r ∷ [])) × (number + left < 2 ^ 64)
    × IfSome text (λ s. (string_bytes s ≡ shown d.options.style d.options.user (told_to u (before ++ r ∷ []))) × AreMade (before ++ r ∷ []))
drawn_more d report u left before r number text seen replies counts longer is =
    let one = counts (omega (arith, is.4)) in
    let more = length-append before (r ∷ []) in (
      is.0,
      is.1,
      replies ∙ ap (λ rs. rs ++ r ∷ []) is.2,
      omega (arith, one, is.3, more),
      omega (arith, one, is.4),
      lines text longer,
    )
  where
    lines : (t : Option (String Global)) → IfSome t (IsLonger d r number) → IfSome t (λ s. (string_bytes s ≡ shown d.options.style d.options.user (told_to u (before ++ r ∷ []))) × AreMade (before ++ r ∷ []))
    lines None l = tt
    lines (Some new) l =
        let one = counts (omega (arith, is.4)) in
        let was = rw l.2 at is.5 in
        let last : ℕ → List ℕ = λ v. shown_line d.options.user (line d.options.style number (answered (v, r))) in (
          l.3 ∙ ap (λ xs. xs ++ last d.uid) was.0 ∙ ap (λ v. shown d.options.style d.options.user (told_to u before) ++ last v) is.1 ∙ sym (shown_more d.options.style d.options.user u before r number (omega (arith, one, is.3))),
          made_more before r was.1 l.0,
        )
