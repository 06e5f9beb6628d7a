-- Lists of two sessions.
use Rattle.std.proofs.Common.{◌≡◌, ℕ, List, [], ◌∷◌, ◌++◌, sym, refl, subst, All}
use Rattle.atomic_table.specs.Seated.{TableId}
use Rattle.requests.specs.Machine.{Machine}
use Rattle.host_lock.specs.Rule.{Each}
use Rattle.host_lock.specs.Sessions.{SessionData, IsAt, new_sessions}
use Rattle.host_lock.proofs.Totals.{each_left, each_right, all_of}

-- both sessions that were opened are of the host
pub two_are_at : (z : TableId) (h : Machine) (u v : ℕ) (all rest none : List SessionData) (a b : SessionData) → all ≡ new_sessions 0 z h (u ∷ v ∷ []) → all ≡ rest ++ b ∷ [] → rest ≡ none ++ a ∷ [] → IsAt z h a × IsAt z h b
two_are_at z h u v all rest none a b born last first =
    let both : Each (IsAt z h) all = subst (Each (IsAt z h)) (sym born) ((refl, refl), ((refl, refl), tt)) in
    let split : Each (IsAt z h) (rest ++ b ∷ []) = subst (Each (IsAt z h)) last both in
    let left : Each (IsAt z h) (none ++ a ∷ []) = subst (Each (IsAt z h)) first (each_left (IsAt z h) rest (b ∷ []) split) in
    ((each_right (IsAt z h) none (a ∷ []) left).0, (each_right (IsAt z h) rest (b ∷ []) split).0)

pub all_one : (P : SessionData → Type 0) (a : SessionData) → P a → All P (a ∷ [])
all_one P a p = all_of P (a ∷ []) (p, tt)

pub all_two : (P : SessionData → Type 0) (a b : SessionData) → P a → P b → All P (a ∷ b ∷ [])
all_two P a b p q = all_of P (a ∷ b ∷ []) (p, (q, tt))
