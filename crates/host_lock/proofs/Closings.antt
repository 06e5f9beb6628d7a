-- What is known at the end.
use Rattle.host_lock.proofs.CommonNames.{◌≡◌, ℕ, ◌+◌, List, [], ◌∷◌, ◌++◌, map, reverse, sym, refl, ap, ◌∙◌, subst, append_assoc, Some, reverse-append, some, map-append, get_elem?, Snapshot, Machine, PlainStep, Entry, Idle, View}
use Rattle.host_lock.proofs.CommonNames.{HostSlot, Present, Taken, History, history, StartsWith, Each, Matches, Closes, session_view, both, SessionData, IsBelow, gathered, known_by, account_of, InJournal}
use Rattle.host_lock.proofs.Totals.{each_append, each_right}

abbrev pub Known : Machine → ℕ → View → History → Type 0
Known h n v k = (k.start ≡ h) × Each (StartsWith k.log) v.known × Each (Matches n k.log) v.owns × Each (IsBelow n) k.log

pub closes_with : {F J : Type 0} (h : Machine) (n : ℕ) (v : View) (xs : List (HostSlot F J)) (k : History) → Closes h n v xs → get_elem? xs 0 ≡ some (Present k) → Known h n v k
closes_with h n v xs k c e =
    let home = c.1 in
    let is : history h c.0 ≡ k = cc in
    subst (Known h n v) is (refl, c.3, c.4, c.5)

pub not_taken : {F J : Type 0} (h : Machine) (n : ℕ) (v : View) (xs : List (HostSlot F J)) (u : ℕ) (s : Snapshot PlainStep) → Closes h n v xs → get_elem? xs 0 ≡ some (Taken u s) → ⊥
not_taken h n v xs u s c e = let home = c.1 in cc

pub pops : (P : SessionData → Type 0) (all rem rem' order : List SessionData) (s : SessionData) → Each P all → all ≡ rem ++ reverse order → rem ≡ rem' ++ s ∷ [] → P s × (all ≡ rem' ++ reverse (order ++ s ∷ []))
pops P all rem rem' order s each is was =
    let now : all ≡ rem' ++ (s ∷ reverse order) = is ∙ ap (λ (l : List SessionData). l ++ reverse order) was ∙ append_assoc rem' (s ∷ []) (reverse order) in (
      (each_right P rem' (s ∷ reverse order) (subst (Each P) now each)).0,
      now ∙ ap (λ (l : List SessionData). rem' ++ l) (sym (reverse-append order (s ∷ []))),
    )

pub joined : (h : Machine) (order : List SessionData) (s : SessionData) (b c : ℕ) → both (gathered h order b) (session_view h Idle c s.known s.number s.mine) ≡ gathered h (order ++ s ∷ []) (b + c)
joined h order s b c =
    λ j. record {
      start = Some h;
      stage = Idle;
      budget = b + c;
      known = sym (map-append known_by order (s ∷ [])) j;
      owns = sym (map-append account_of order (s ∷ [])) j;
    }

-- the facts of the gathered seat, session by session
pub stand : (n : ℕ) (log : List Entry) (order : List SessionData) → Each (StartsWith log) (map known_by order) → Each (Matches n log) (map account_of order) → Each (InJournal log) order
stand n log [] a b = tt
stand n log (s ∷ ss) a b = ((a.0, b.0.0), stand n log ss a.1 b.1)

pub each_reverse : (P : SessionData → Type 0) (l : List SessionData) → Each P l → Each P (reverse l)
each_reverse P [] e = e
each_reverse P (x ∷ xs) e = let f = each_append P (reverse xs) (x ∷ []) (each_reverse P xs e.1) (e.0, tt) in subst (Each P) (sym (reverse-append (x ∷ []) xs)) f
