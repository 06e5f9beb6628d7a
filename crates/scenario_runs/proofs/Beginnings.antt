-- How a line begins, which the next line of its user keeps.
use Rattle.scenario_runs.proofs.CommonNames.{◌≡◌, ℕ, ◌-◌, ◌≤◌, List, [], ◌∷◌, ◌++◌, length, take, get_or, Option, None, Some, sym, ap, ◌∙◌, subst, arith, append_assoc, length-append, take-append_seam}
use Rattle.std.proofs.Common.{decimal}
use Rattle.std.specs.Option.{IfSome}
use Rattle.std.proofs.Math.Seq.{get_or-append_seam}
use Rattle.scenario_runs.specs.Lines.{Begins}

-- with more bytes behind it, and alone
pub begins_still : (bytes more : List ℕ) (kept user : ℕ) → Begins bytes kept user → Begins (bytes ++ more) kept user
begins_still bytes more kept user b = record { rest = b.rest ++ more; is = ap (λ xs. xs ++ more) b.is ∙ append_assoc (decimal user) (32 ∷ b.rest) more; size = b.size; few = b.few }

pub begun_still : (o : Option ℕ) (kept : ℕ) (bytes more longer : List ℕ) → IfSome o (λ user. Begins bytes kept user) → longer ≡ bytes ++ more → IfSome o (λ user. Begins longer kept user)
begun_still None kept bytes more longer b is = b
begun_still (Some user) kept bytes more longer b is = subst (λ xs. Begins xs kept user) (sym is) (begins_still bytes more kept user b)

module _ (bytes : List ℕ) (kept user : ℕ) (b : Begins bytes kept user) where
  joined : bytes ≡ (decimal user ++ 32 ∷ []) ++ b.rest
  joined = b.is ∙ sym (append_assoc (decimal user) (32 ∷ []) b.rest)

  size : kept ≡ length (decimal user ++ 32 ∷ [])
  size = b.size ∙ sym (length-append (decimal user) (32 ∷ []))

  pub kept_is : take kept bytes ≡ decimal user ++ 32 ∷ []
  kept_is = ap (λ k. take k bytes) size ∙ ap (take (length (decimal user ++ 32 ∷ []))) joined ∙ take-append_seam (decimal user ++ 32 ∷ []) b.rest

  pub kept_within : kept ≤ length bytes
  kept_within = omega (arith, b.size, ap length b.is, length-append (decimal user) (32 ∷ b.rest))

  pub space_before : get_or bytes (kept - 1) 0 ≡ 32
  space_before = ap (λ k. get_or bytes k 0) (omega (arith, b.size)) ∙ ap (λ xs. get_or xs (length (decimal user)) 0) b.is ∙ get_or-append_seam (decimal user) 32 b.rest 0
