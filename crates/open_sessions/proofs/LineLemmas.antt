-- A line is one step, or has one fault; and so it is a step of one user.
use Rattle.{std.proofs.Common.{◌+◌, ◌-◌, ◌^◌, slice_index, ◌≡◌, List, ℕ, Result, Ok, Err, ap, refl, arith}, scenario_text.specs.declared.fault.Fault.Fault}
use Rattle.step_types.specs.Plain.{UserStep}
use Rattle.{scenario_text.specs.{OneStep.{IsStep, too_long, no_value, value}, Scenarios.numbered, Steps.step_of}}

pub one_result : (bytes : List ℕ) (r q : Result UserStep Fault) → IsStep bytes r → IsStep bytes q → r ≡ q
one_result bytes r q (too_long h) (too_long k) = refl
one_result bytes r q (no_value s h) (no_value t k) = refl
one_result bytes r q (no_value s h) (value d t k) = let no = h k.0 in let yes = k.1 in cc
one_result bytes r q (value d s h) (no_value t k) = let no = k h.0 in let yes = h.1 in cc
one_result bytes r q (value d s h) (value e t k) = let a = h.1 in let b = k.1 in let same : d ≡ e = cc in ap (λ x. numbered 1 (step_of x)) same
one_result bytes r q (too_long h) (no_value s k) = absurd (omega arith)
one_result bytes r q (too_long h) (value d s k) = absurd (omega arith)
one_result bytes r q (no_value s h) (too_long k) = absurd (omega arith)
one_result bytes r q (value d s h) (too_long k) = absurd (omega arith)

-- by these counts of answers, the line is a step of a user who has had the most that are counted
abbrev FullStep : List ℕ → List ℕ → Type 0
FullStep line made = (a : UserStep) × IsStep line (Ok a) × (slice_index made (a.uid - 1001) + 1 ≡ 2 ^ 64)

-- a line that is a step of a user with room is no step of a user without
pub room_for : (line : List ℕ) (a : UserStep) (made : List ℕ) → IsStep line (Ok a) → ¬ (slice_index made (a.uid - 1001) + 1 ≡ 2 ^ 64) → ¬ FullStep line made
room_for line a made is room full = room (cc (one_result line (Ok full.0) (Ok a) full.1 is, full.2))

-- a line that is no step is a step of no user
pub room_for_refused : (line : List ℕ) (f : Fault) (made : List ℕ) → IsStep line (Err f) → ¬ FullStep line made
room_for_refused line f made is full = cc (one_result line (Ok full.0) (Err f) full.1 is)
