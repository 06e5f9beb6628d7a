-- The sessions of a new host.
use Rattle.host_lock.proofs.CommonNames.{◌≡◌, ℕ, zero, suc, ◌+◌, ◌-◌, ◌*◌, ◌<◌, ◌≤◌, List, [], ◌∷◌, ◌++◌, length, drop, get_or, sym, ap, ◌∙◌, subst, arith, append_assoc, drop-cons, add-one, Splits, Machine, Idle, View, SharedInvariant}
use Rattle.host_lock.proofs.CommonNames.{fresh_view, others, session_view, split_left, split_right, max_calls, SessionData, new_session, new_sessions}
use Rattle.atomic_table.specs.Seated.{TableId}
use Rattle.host_lock.proofs.Turns.{fresh_length, splits}

pub new_sessions_at : (us : List ℕ) (i : ℕ) (z : TableId) (h : Machine) → i < length us → new_sessions i z h (drop i us) ≡ new_session (get_or us i 0) i z h ∷ new_sessions (i + 1) z h (drop (i + 1) us)
new_sessions_at us i z h lt =
    let e : drop i us ≡ get_or us i 0 ∷ drop (i + 1) us = rw (add-one) (drop-cons us i 0 lt) in
    ap (new_sessions i z h) e

pub one_more : (us : List ℕ) (i : ℕ) (z : TableId) (h : Machine) (xs ys : List SessionData) → i < length us → xs ++ new_sessions i z h (drop i us) ≡ new_sessions 0 z h us → ys ≡ xs ++ new_session (get_or us i 0) i z h ∷ []
    → ys ++ new_sessions (i + 1) z h (drop (i + 1) us) ≡ new_sessions 0 z h us
one_more us i z h xs ys lt all is = rw is (simp (append_assoc, ← new_sessions_at us i z h lt) all)

-- the others of a seat that owns some sessions
many : (h : Machine) (i k : ℕ) → others (fresh_view h i (suc k)) ≡ k
many h i k = let r = fresh_length (i + 1) k in omega arith

first_is : (h : Machine) (i k : ℕ) → split_left (fresh_view h i (suc k)) ≡ session_view h Idle max_calls [] i []
first_is h i k =
    let m = many h i k in
    let budget : suc k * max_calls - others (fresh_view h i (suc k)) * max_calls ≡ max_calls = omega arith in
    ap (λ (b : ℕ). session_view h Idle b [] i []) budget

later_are : (h : Machine) (i k : ℕ) → split_right (fresh_view h i (suc k)) ≡ fresh_view h (i + 1) k
later_are h i k = ap (λ (o : ℕ). record (fresh_view h (i + 1) k) { budget = o * max_calls }) (many h i k)

-- a seat that owns k sessions from i on keeps the first one
pub splits_one : (F J : Type 0) (h r : Machine) (n id i k : ℕ) (v : View) → 0 < k → v ≡ fresh_view r i k → Splits (SharedInvariant {F = F} {J = J} h n) id v (split_left v) (split_right v)
splits_one F J h r n id i zero v some e = absurd (omega arith)
splits_one F J h r n id i (suc k) v some e =
    let m = many r i k in
    let few : others (fresh_view r i (suc k)) * max_calls ≤ suc k * max_calls = omega arith in
    splits h n id v (ap (λ (w : View). w.stage) e) (subst (λ (w : View). others w * max_calls ≤ w.budget) (sym e) few)

pub left_is : (r : Machine) (i k : ℕ) (v w : View) → 0 < k → v ≡ fresh_view r i k → w ≡ split_left v → w ≡ session_view r Idle max_calls [] i []
left_is r i zero v w some e is = absurd (omega arith)
left_is r i (suc k) v w some e is = is ∙ ap split_left e ∙ first_is r i k

pub right_is : (r : Machine) (i k : ℕ) (v w : View) → 0 < k → v ≡ fresh_view r i k → w ≡ split_right v → w ≡ fresh_view r (i + 1) (k - 1)
right_is r i zero v w some e is = absurd (omega arith)
right_is r i (suc k) v w some e is = let z : suc k - 1 ≡ k = omega arith in is ∙ ap split_right e ∙ later_are r i k ∙ ap (fresh_view r (i + 1)) (sym z)
