-- Faults that are handed on.
use Rattle.std.proofs.Common.{Bool, List, Option, Result, ℕ, ◌++◌, ◌∙◌, false, sym, subst, true≢false}
use Rattle.std.specs.Prelude.{IsErrAnd, IfErr, OnOk, Ok, Err, ⊤, ◌≡◌}
use Rattle.std.specs.Result.{is_err}
use Rattle.scenario_runs.specs.{Parts.{Begins, Parted}, Runs.Writes, declared.running.RunFault.RunFault, declared.running.RunFault.TheVariants.{Memory, Mismatch, Start, Write}}
use Rattle.scenario_runs.proofs.WriteLemmas.{front_is}
use Rattle.std.proofs.lemmas.List.{append_assoc}
use Rattle.json_trace.specs.Parts.{Stopped, WritesFront}

-- what holds of a fault holds of the result that it becomes
pub handed : (P : RunFault → Type 0) (r : Result ⊤ RunFault) (fault : RunFault) → IsErrAnd r (λ x. x ≡ fault) → P fault → IfErr r P
handed P (Ok done) fault same p = absurd same
handed P (Err x) fault same p = subst P (sym same) p

-- what follows from what holds of a fault holds of it
pub implied : {T E : Type 0} (P Q : E → Type 0) (r : Result T E) → ((e : E) → P e → Q e) → IfErr r P → IfErr r Q
implied P Q (Ok done) from was = tt
implied P Q (Err e) from was = from e was

-- a result that is no error
pub succeeded : {T E : Type 0} (P : Type 0) (r : Result T E) → is_err r ≡ false → OnOk r P → P
succeeded P (Ok done) fine p = p
succeeded P (Err e) fine p = absurd (true≢false fine)

-- what was written at a fault was written at the result that it becomes
pub writes_handed : (r : Result ⊤ RunFault) (fault : RunFault) (a b : Option (List ℕ)) (text : List ℕ) → IsErrAnd r (λ x. x ≡ fault) → Writes (Err fault) a b text → Writes r a b text
writes_handed (Ok done) fault a b text same w = absurd same
writes_handed (Err x) fault a b text same w = subst (λ e. Writes (Err e) a b text) (sym same) w

-- what was written is the text or its beginning
pub front_of : (r : Result ⊤ RunFault) (a b : Option (List ℕ)) (text : List ℕ) → IfErr r (λ e. e ≡ Write) → Writes r a b text → WritesFront r a b text
front_of (Ok done) a b text kind w = w
front_of (Err e) a b text kind w = subst (λ e. Writes (Err e) a b text) kind w

pub front_at : (r : Result ⊤ RunFault) (fault : RunFault) (a b : Option (List ℕ)) (text : List ℕ) → IsErrAnd r (λ x. x ≡ fault) → Begins a b text → WritesFront r a b text
front_at (Ok done) fault a b text same begins = absurd same
front_at (Err e) fault a b text same begins = begins

parted_front : (a b : Option (List ℕ)) (text rest all : List ℕ) (is_begun : Bool) → Parted a b text rest all is_begun → Begins a b all
parted_front a b text rest all is_begun p = front_is a b (text ++ rest) all (p.done, sym (append_assoc p.done text rest) ∙ p.whole, p.written)

-- a run that stopped has written the beginning
pub stopped : (e : RunFault) (a b : Option (List ℕ)) (text all : List ℕ) (is_begun : Bool) → Stopped e a b text all is_begun → Begins a b all
stopped Write a b text all is_begun s = s
stopped Memory a b text all is_begun s = parted_front a b text s.0 all is_begun s.1
stopped Start a b text all is_begun s = parted_front a b text s.0 all is_begun s.1
stopped Mismatch a b text all is_begun s = parted_front a b text s.0 all is_begun s.1
