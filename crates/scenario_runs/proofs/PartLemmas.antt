-- Lines that are written some at a time.
use Rattle.scenario_runs.proofs.CommonNames.{⊤, ◌≡◌, ℕ, ◌+◌, ◌<◌, Bool, false, if◌then◌else◌, List, [], ◌∷◌, ◌++◌, length, take, drop, get_or, map, Option, None, Some, Result, refl, sym, ap, subst, ◌∙◌, append-nil, append_assoc, arith, take-append-drop}
use Rattle.scenario_runs.proofs.CommonNames.{Appends, Keeps, Reply, Style, line, shown_line, answered}
use Rattle.std.specs.Prelude.{IsErrAnd, IfErr, Ok, Err, true}
use Rattle.scenario_runs.specs.{Parts.{Parted, Unbegun, Begins}, Runs.Writes, declared.running.RunFault.RunFault, declared.running.RunFault.TheVariants.{Memory, Write}}
use Rattle.scenario_runs.proofs.{LineLemmas.{replies_to, shown_after, text_more}, WriteLemmas.{appends_more, front_is}}

nothing_written : (a : Option (List ℕ)) → Appends a a []
nothing_written None = tt
nothing_written (Some xs) = sym (append-nil xs)

kept_still : (a : Option (List ℕ)) → Keeps a a
kept_still None = tt
kept_still (Some xs) = refl

pub parted_start : (a : Option (List ℕ)) (text rest all : List ℕ) → text ++ rest ≡ all → Parted a a text rest all false
parted_start a text rest all whole = record { done = []; written = nothing_written a; whole = whole; kept = kept_still a }

-- one more line
pub parted_more : (style : Style) (user : Option ℕ) (es : List (ℕ × Reply)) (i : ℕ) (e : ℕ × Reply) (before : List ℕ) (number : ℕ) (a b : Option (List ℕ)) (old new all : List ℕ) (is_begun : Bool)
    → i < length es → get_or es i e ≡ e → number ≡ replies_to e.0 before + 1 → new ≡ old ++ shown_line user (line style number (answered e))
    → Parted a b old (shown_after style user before (map answered (drop i es))) all is_begun
    → Parted a b new (shown_after style user (e.0 ∷ before) (map answered (drop (i + 1) es))) all is_begun
parted_more style user es i e before number a b old new all is_begun more here number_is new_is p = record {
  done = p.done;
  written = p.written;
  whole = text_more style user es i e before number (p.done ++ old) (p.done ++ new) all more here number_is
      (ap (λ xs. p.done ++ xs) new_is ∙ sym (append_assoc p.done old _)) p.whole;
  kept = p.kept;
}

-- the text has got a line of the rest
pub parted_line : (a b : Option (List ℕ)) (text line new rest all : List ℕ) (is_begun : Bool) → new ≡ text ++ line → Parted a b text (line ++ rest) all is_begun → Parted a b new rest all is_begun
parted_line a b text line new rest all is_begun is p = record {
  done = p.done;
  written = p.written;
  whole = ap (λ xs. (p.done ++ xs) ++ rest) is ∙ ap (λ xs. xs ++ rest) (sym (append_assoc p.done text line)) ∙ append_assoc (p.done ++ text) line rest ∙ p.whole;
  kept = p.kept;
}

-- the text was written
pub parted_written : (a b c : Option (List ℕ)) (text rest all : List ℕ) (is_begun : Bool) → Parted a b text rest all is_begun → Appends b c text → Parted a c [] rest all true
parted_written a b c text rest all is_begun p w = record {
  done = p.done ++ text;
  written = appends_more a b c p.done text p.written w;
  whole = ap (λ xs. xs ++ rest) (append-nil (p.done ++ text)) ∙ p.whole;
  kept = tt;
}

-- only the beginning of the text was written
pub parted_cut : (a b c : Option (List ℕ)) (text rest all : List ℕ) (is_begun : Bool) (n : ℕ) → Parted a b text rest all is_begun → Appends b c (take n text) → Begins a c all
parted_cut a b c text rest all is_begun n p w =
    let split = take-append-drop n text in
    let whole : (p.done ++ take n text) ++ (drop n text ++ rest) ≡ all = grind (arith, append_assoc {A = ℕ}, split, p.whole) in
    front_is a c (drop n text ++ rest) all (p.done ++ take n text, whole, appends_more a b c p.done (take n text) p.written w)

pub parted_failed : (a b c : Option (List ℕ)) (r : Result ⊤ RunFault) (e : RunFault) (text rest all : List ℕ) (is_begun : Bool) → IsErrAnd r (λ x. x ≡ e) → e ≡ Write
    → Parted a b text rest all is_begun → Writes (Err e) b c text → Writes r a c all
parted_failed a b c (Ok done) e text rest all is_begun same is p w = absurd same
parted_failed a b c (Err x) e text rest all is_begun same is p w =
    let cut : (n : ℕ) × Appends b c (take n text) = subst (λ y. Writes (Err y) b c text) is w in
    subst (λ y. Writes (Err y) a c all) (sym (same ∙ is)) (parted_cut a b c text rest all is_begun cut.0 p cut.1)

-- no memory was left for a line
pub parted_fault : (a b : Option (List ℕ)) (fault : RunFault) (text rest all : List ℕ) (is_begun : Bool) → fault ≡ (if is_begun then Write else Memory)
    → Parted a b text rest all is_begun → Writes (Err fault) a b all
parted_fault a b fault text rest all true is p =
    subst (λ y. Writes (Err y) a b all) (sym is) (front_is a b (text ++ rest) all (p.done, sym (append_assoc p.done text rest) ∙ p.whole, p.written))
parted_fault a b fault text rest all false is p = subst (λ y. Writes (Err y) a b all) (sym is) p.kept

-- the last part
pub parted_end : (a b c : Option (List ℕ)) (r : Result ⊤ RunFault) (text rest all : List ℕ) (is_begun : Bool) → rest ≡ [] → IfErr r (λ e. e ≡ Write)
    → Parted a b text rest all is_begun → Writes r b c text → Writes r a c all
parted_end a b c (Ok done) text rest all is_begun none kind p w =
    let whole : p.done ++ text ≡ all = sym (append-nil (p.done ++ text)) ∙ ap (λ xs. (p.done ++ text) ++ xs) (sym none) ∙ p.whole in
    let P : List ℕ → Type 0 = λ xs. Appends a c xs in subst P whole (appends_more a b c p.done text p.written w)
parted_end a b c (Err e) text rest all is_begun none kind p w = parted_failed a b c (Err e) e text rest all is_begun refl kind p w

-- the text was written or its beginning, and the rest isn't
pub parted_begins : (a b c : Option (List ℕ)) (r : Result ⊤ RunFault) (text rest all : List ℕ) (is_begun : Bool) → IfErr r (λ e. e ≡ Write) → Parted a b text rest all is_begun → Writes r b c text → Begins a c all
parted_begins a b c (Ok done) text rest all is_begun kind p w =
    front_is a c rest all (p.done ++ text, p.whole, appends_more a b c p.done text p.written w)
parted_begins a b c (Err e) text rest all is_begun kind p w =
    let cut : (n : ℕ) × Appends b c (take n text) = subst (λ y. Writes (Err y) b c text) kind w in parted_cut a b c text rest all is_begun cut.0 p cut.1
