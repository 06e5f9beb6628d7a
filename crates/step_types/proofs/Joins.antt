-- Words that are written one after another, each after what precedes it.
use Rattle.std.proofs.Common.{◌≡◌, ℕ, List, [], ◌∷◌, ◌++◌, map, codes, decimal, refl, sym, ap, append-nil, Option, arith}
use Rattle.std.proofs.lemmas.{Bool.Decides.nat_tests, List.append_assoc}
use Rattle.std.specs.List.{flat_map, join_with_byte}
use Rattle.stop_handlers.specs.declared.{Decision.Decision, StopView.StopView}
use Rattle.step_types.specs.{Status.word, Words.decision_words, Words.flags_word, Words.index_text, Words.reply_words, Words.view_words}
use Rattle.step_types.specs.declared.{Reply.Reply, StatusKind.StatusKind}

-- the numbers, each after a space
abbrev pub spaced : List ℕ → List ℕ
spaced numbers = flat_map (λ n. 32 ∷ decimal n) numbers

pub spaced_words : (w : List ℕ) (ns : List ℕ) → join_with_byte 32 (w ∷ map (λ n. decimal n) ns) ≡ w ++ spaced ns
spaced_words w [] = sym (append-nil w)
spaced_words w (n ∷ ns) = ap (λ xs. w ++ (32 ∷ xs)) (spaced_words (decimal n) ns)

-- the text before what was decided
abbrev pub handled_front : ℕ → StatusKind → StopView → Option ℕ → List ℕ → List ℕ
handled_front pid status view index rest =
    codes "handled " ++ (decimal pid ++ (codes " " ++ (decimal (word status) ++ (codes " at " ++ (join_with_byte 32 (view_words view) ++ (codes " by " ++ (index_text index ++ (codes " " ++ rest))))))))

join_append : (byte : ℕ) (x : List ℕ) (xs : List (List ℕ)) (y : List ℕ) (ys : List (List ℕ))
    → join_with_byte byte (x ∷ xs) ++ (byte ∷ join_with_byte byte (y ∷ ys)) ≡ join_with_byte byte (x ∷ (xs ++ y ∷ ys))
join_append byte x [] y ys = refl
join_append byte x (v ∷ vs) y ys = grind (arith, nat_tests, append_assoc, join_append byte v vs y ys)

handled_list : (pid : ℕ) (status : StatusKind) (view : StopView) (index : Option ℕ) (d : List (List ℕ))
    → codes "handled " ++ (decimal pid ++ (codes " " ++ (decimal (word status) ++ (codes " at " ++ (join_with_byte 32 (view_words view) ++ (32 ∷ join_with_byte 32 (codes "by" ∷ index_text index ∷ d)))))))
    ≡ codes "handled " ++ (decimal pid ++ (codes " " ++ (decimal (word status) ++ (codes " at " ++ join_with_byte 32 (view_words view ++ (codes "by" ∷ index_text index ∷ d))))))
handled_list pid status view index d = grind (arith, nat_tests, join_append 32 (decimal view.tid) ((codes "signal=" ++ decimal view.sig) ∷ flags_word view.flags ∷ (codes "child=" ++ decimal view.child) ∷ (codes "code=" ++ decimal view.code) ∷ []) (codes "by") (index_text index ∷ d))

pub handled_words : (pid : ℕ) (status : StatusKind) (view : StopView) (index : Option ℕ) (d : Decision)
    → handled_front pid status view index (join_with_byte 32 (decision_words d)) ≡ join_with_byte 32 (reply_words (Reply.Handled pid status view index d))
handled_words pid status view index d = grind (arith, nat_tests, handled_list)
