-- Lines made piece by piece: the words of handled stops and of LWPs' information.
use Rattle.scenario_runs.proofs.CommonNames.{◌≡◌, ◌++◌, ◌∷◌, [], ℕ, List, refl, sym, ap, ◌∙◌, append_assoc}
use Rattle.std.specs.{Prelude.{codes, decimal}, List.join_with_byte}
use Rattle.signals.specs.Sets.{members}
use Rattle.event_masks.specs.Names.{flag_text, stop_table}
use Rattle.stop_handlers.specs.declared.Decision.{Decision}
use Rattle.step_types.specs.{Words.{decision_words, reply_words}, Events.event_name, declared.LwpInfo.LwpInfo, declared.Reply.TheVariants.{Info}}

-- a piece, and the others after it
abbrev pieces : List ℕ → List (List ℕ) → List ℕ
pieces x [] = x
pieces x (y ∷ ys) = x ++ pieces y ys

-- the same, and the end of the line
abbrev ended : List ℕ → List (List ℕ) → List ℕ → List ℕ
ended x [] n = x ++ n
ended x (y ∷ ys) n = x ++ ended y ys n

-- pieces that were added one by one
abbrev pushed : List ℕ → List (List ℕ) → List ℕ
pushed line [] = line
pushed line (y ∷ ys) = pushed (line ++ y) ys

pieces_ended : (x : List ℕ) (ys : List (List ℕ)) (n : List ℕ) → pieces x ys ++ n ≡ ended x ys n
pieces_ended x [] n = refl
pieces_ended x (y ∷ ys) n = append_assoc x (pieces y ys) n ∙ ap (λ z. x ++ z) (pieces_ended y ys n)

pushed_ended : (line x : List ℕ) (ys : List (List ℕ)) (n : List ℕ) → pushed (line ++ x) ys ++ n ≡ line ++ ended x ys n
pushed_ended line x [] n = append_assoc line x n
pushed_ended line x (y ∷ ys) n = pushed_ended (line ++ x) y ys n ∙ append_assoc line x (ended y ys n)

-- pieces that were added one by one are a line's words and its end
added : (line x : List ℕ) (ys : List (List ℕ)) (n : List ℕ) → pushed (line ++ x) ys ++ n ≡ (line ++ pieces x ys) ++ n
added line x ys n = pushed_ended line x ys n ∙ sym (append_assoc line (pieces x ys) n ∙ ap (λ z. line ++ z) (pieces_ended x ys n))

handled_added : (line p w t s f c k i d : List ℕ)
    → line ++ codes " handled " ++ p ++ codes " " ++ w ++ codes " at " ++ t ++ codes " signal=" ++ s ++ codes " flags=" ++ f
    ++ codes " child=" ++ c ++ codes " code=" ++ k ++ codes " by " ++ i ++ (32 ∷ d) ++ codes "\n"
    ≡ line ++ (32 ∷ join_with_byte 32 (codes "handled" ∷ p ∷ w ∷ codes "at" ∷ t ∷ (codes "signal=" ++ s) ∷ (codes "flags=" ++ f) ∷ (codes "child=" ++ c) ∷ (codes "code=" ++ k) ∷ codes "by" ∷ i ∷ d ∷ [])) ++ (10 ∷ [])
handled_added line p w t s f c k i d = added line (codes " handled ")
    (p ∷ codes " " ∷ w ∷ codes " at " ∷ t ∷ codes " signal=" ∷ s ∷ codes " flags=" ∷ f ∷ codes " child=" ∷ c ∷ codes " code=" ∷ k ∷ codes " by " ∷ i ∷ (32 ∷ d) ∷ [])
    (codes "\n")

-- the words of a decision come last
pub decided : (line p w t s f c k i : List ℕ) (d : Decision)
    → line ++ codes " handled " ++ p ++ codes " " ++ w ++ codes " at " ++ t ++ codes " signal=" ++ s ++ codes " flags=" ++ f
    ++ codes " child=" ++ c ++ codes " code=" ++ k ++ codes " by " ++ i ++ (32 ∷ join_with_byte 32 (decision_words d)) ++ codes "\n"
    ≡ line ++ (32 ∷ join_with_byte 32 (codes "handled" ∷ p ∷ w ∷ codes "at" ∷ t ∷ (codes "signal=" ++ s) ∷ (codes "flags=" ++ f) ∷ (codes "child=" ++ c) ∷ (codes "code=" ++ k) ∷ codes "by" ∷ i ∷ decision_words d)) ++ (10 ∷ [])
decided line p w t s f c k i Decision.Decline = handled_added line p w t s f c k i (join_with_byte 32 (decision_words Decision.Decline))
decided line p w t s f c k i Decision.Leave = handled_added line p w t s f c k i (join_with_byte 32 (decision_words Decision.Leave))
decided line p w t s f c k i (Decision.Continue g) = handled_added line p w t s f c k i (join_with_byte 32 (decision_words (Decision.Continue g)))
decided line p w t s f c k i (Decision.Detach g) = handled_added line p w t s f c k i (join_with_byte 32 (decision_words (Decision.Detach g)))
decided line p w t s f c k i Decision.Kill = handled_added line p w t s f c k i (join_with_byte 32 (decision_words Decision.Kill))

info_added : (line t e f c k : List ℕ)
    → line ++ codes " info " ++ t ++ codes " " ++ e ++ codes " flags=" ++ f ++ codes " mask=none pending=none child=" ++ c ++ codes " code=" ++ k ++ codes "\n"
    ≡ line ++ (32 ∷ join_with_byte 32 (codes "info" ∷ t ∷ e ∷ (codes "flags=" ++ f) ∷ codes "mask=none" ∷ codes "pending=none" ∷ (codes "child=" ++ c) ∷ (codes "code=" ++ k) ∷ [])) ++ (10 ∷ [])
info_added line t e f c k =
    added line (codes " info ") (t ∷ codes " " ∷ e ∷ codes " flags=" ∷ f ∷ codes " mask=none pending=none child=" ∷ c ∷ codes " code=" ∷ k ∷ []) (codes "\n")

no_members : members 0 ≡ []
unfolding members
no_members = refl

-- the words about such an LWP, whose event and flags have these texts
pub told : (line : List ℕ) (i : LwpInfo) (e f : List ℕ) → e ≡ event_name i.event → f ≡ flag_text stop_table i.flags.0 → i.sigmask ≡ 0 → i.siglist ≡ 0
    → line ++ codes " info " ++ decimal i.tid ++ codes " " ++ e ++ codes " flags=" ++ f ++ codes " mask=none pending=none child=" ++ decimal i.child ++ codes " code=" ++ decimal i.code ++ codes "\n"
    ≡ line ++ (32 ∷ join_with_byte 32 (reply_words (Info i))) ++ (10 ∷ [])
told line i e f event flags mask pending = rw (mask, pending, no_members, sym event, sym flags) (info_added line (decimal i.tid) e f (decimal i.child) (decimal i.code))
