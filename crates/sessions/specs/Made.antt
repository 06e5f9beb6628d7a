-- The journal entries of a script's answered steps.
use Rattle.std.specs.Prelude.{◌≡◌, ℕ, List, [], ◌∷◌, length, if◌then◌else◌}
use Rattle.{host_lock.specs.{declared.journal.Entry.Entry, Journal.entry, Sessions.SessionData}}
use Rattle.step_types.specs.{Plain.PlainStep, Replies.is_memory, declared.Reply.Reply}

-- the entries of these steps with these replies, except those with the reply ENOMEM
abbrev pub made : ℕ → ℕ → List PlainStep → List Reply → List Entry
made u n [] rs = []
made u n (s ∷ ss) [] = []
made u n (s ∷ ss) (r ∷ rs) = if is_memory r then made u n ss rs else entry u n s r ∷ made u n ss rs

-- the session made these steps, in order, and no others, and got these replies
abbrev pub HasMade : SessionData → List PlainStep → List Reply → SessionData → Type 0
HasMade v ss rs w = (length rs ≡ length ss) × (w.uid ≡ v.uid) × (w.number ≡ v.number) × (w.host ≡ v.host) × (w.start ≡ v.start) × (w.calls ≡ length ss) × (w.mine ≡ made v.uid v.number ss rs)

-- the lists have the same length, and R holds of their elements in each place
abbrev pub Pairs : {A B : Type 0} → (A → B → Type 0) → List A → List B → Type 0
Pairs R [] [] = Unit {0}
Pairs R [] (y ∷ ys) = ⊥
Pairs R (x ∷ xs) [] = ⊥
Pairs R (x ∷ xs) (y ∷ ys) = R x y × Pairs R xs ys
