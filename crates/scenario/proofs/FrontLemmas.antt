-- One text written after another.
use Rattle.scenario.proofs.CommonNames.{⊤, take-append-drop, Appends, Writes, Front, appends_more}
use Rattle.std.proofs.Common.{◌≡◌, ℕ, List, [], ◌++◌, length, take, drop, Option, Result, Ok, Err, sym, ap, subst, ◌∙◌, append_assoc, append-nil}
use Rattle.std.proofs.Math.Seq.{take-append_seam}
use Rattle.std.specs.Result.{IsErrAnd}
use Rattle.scenario_runs.specs.declared.running.RunFault.{RunFault}
use Rattle.scenario_runs.specs.declared.running.RunFault.TheVariants.{Write}

module _ (a b c : Option (List ℕ)) where
  -- one more text was written
  pub front_next : (text rest all : List ℕ) → Front a b (text ++ rest) all → Appends b c text → Front a c rest all
  front_next text rest all f q = (f.0 ++ text, append_assoc f.0 text rest ∙ f.1, appends_more a b c f.0 text f.2 q)

  -- a front of one more was written
  front_cut : (text rest all : List ℕ) (n : ℕ) → Front a b (text ++ rest) all → Appends b c (take n text) → (m : ℕ) × Appends a c (take m all)
  front_cut text rest all n f q =
      let split : take n text ++ (drop n text ++ rest) ≡ text ++ rest = sym (append_assoc (take n text) (drop n text) rest) ∙ ap (λ xs. xs ++ rest) (take-append-drop n text) in
      let parts : Front a b (take n text ++ (drop n text ++ rest)) all = (f.0, ap (λ xs. f.0 ++ xs) split ∙ f.1, f.2) in
      let moved : Front a c (drop n text ++ rest) all = front_next (take n text) (drop n text ++ rest) all parts q in
      let front : moved.0 ≡ take (length moved.0) all = sym (take-append_seam moved.0 (drop n text ++ rest)) ∙ ap (take (length moved.0)) moved.1 in
      (length moved.0, let P : List ℕ → Type 0 = λ xs. Appends a c xs in subst P front moved.2)

  -- the writer failed at one more
  pub front_failed : (r : Result ⊤ RunFault) (e : RunFault) (text rest all : List ℕ) → IsErrAnd r (λ x. x ≡ e) → e ≡ Write → Front a b (text ++ rest) all → Writes (Err e) b c text → Writes r a c all
  front_failed (Ok done) e text rest all same is f w = absurd same
  front_failed (Err x) e text rest all same is f w =
      let cut : (n : ℕ) × Appends b c (take n text) = subst (λ y. Writes (Err y) b c text) is w in
      subst (λ y. Writes (Err y) a c all) (sym (same ∙ is)) (front_cut text rest all cut.0 f cut.1)

-- all were written
pub front_whole : (a b : Option (List ℕ)) (rest all : List ℕ) → rest ≡ [] → Front a b rest all → Appends a b all
front_whole a b rest all none f =
    let whole : f.0 ≡ all = sym (append-nil f.0) ∙ ap (λ xs. f.0 ++ xs) (sym none) ∙ f.1 in
    let P : List ℕ → Type 0 = λ xs. Appends a b xs in subst P whole f.2
