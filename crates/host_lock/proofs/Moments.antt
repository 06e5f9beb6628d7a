-- Moments: a session learns what another one knew, and its calls come after that.
use Rattle.host_lock.proofs.CommonNames.{◌≡◌, ℕ, ◌+◌, ◌-◌, ◌*◌, ◌<◌, ◌≤◌, ◌==◌, Bool, true, false, leb, if◌then◌else◌, List, [], ◌∷◌, ◌++◌, length, get_or, drop, sym, refl, ap, ap₂, ◌∙◌, subst, arith, ⊎_elim, MatchBool, length-append}
use Rattle.host_lock.proofs.CommonNames.{append-nil, append_assoc, nil_from_length, filter-append, none, step, Machine, Entry, entries_of, StartsWith, IsLegal, entry, max_calls, Idle, View, M, Each, both, HasLearned, looked, longer, longest, longest_of}
use Rattle.host_lock.proofs.CommonNames.{moment_view, others, session_view, split_left, split_right, start_of, known_of, mine_of, view_in, Makes}
use Rattle.std.proofs.lemmas.Bool.Decides.{leb_tells}
use Rattle.host_lock.specs.Answers.{CallsInOrder}
use Rattle.host_lock.proofs.Journey.{IsIdle, IsSettled, settled}

-- of two beginnings of one list the longer one begins with the other
nest : (x y p q : List Entry) → x ++ p ≡ y ++ q → length x ≤ length y → StartsWith y x
nest [] y p q is le = (y, refl)
nest (a ∷ x) [] p q is le = absurd (omega arith)
nest (a ∷ x) (b ∷ y) p q is le =
    let rest = nest x y p q (ap (drop 1) is) (omega arith) in
    let head : b ≡ a = sym (ap (λ (l : List Entry). get_or l 0 a) is) in
    (rest.0, ap₂ (λ (e : Entry) (l : List Entry). e ∷ l) head rest.1)

starts_itself : (x : List Entry) → StartsWith x x
starts_itself x = ([], sym (append-nil x))

starts_through : (x y z : List Entry) → StartsWith x y → StartsWith y z → StartsWith x z
starts_through x y z s t = (t.0 ++ s.0, s.1 ∙ ap (λ (l : List Entry). l ++ s.0) t.1 ∙ append_assoc z t.0 s.0)

-- the longer of two lists is one of them
longer_is : (P : List Entry → Type 0) (x y : List Entry) → P x → P y → P (longer x y)
longer_is P x y p q = elim (leb (length y) (length x)) as (λ b. P (if b then x else y)) [
  | true ↦ p
  | false ↦ q
]

-- the longest of some beginnings of a list is one too
longest_of_starts : (log x : List Entry) (ys : List (List Entry)) → StartsWith log x → Each (StartsWith log) ys → StartsWith log (longest_of x ys)
longest_of_starts log x [] s t = s
longest_of_starts log x (y ∷ ys) s t = longest_of_starts log (longer x y) ys (longer_is (StartsWith log) x y s t.0) t.1

pub longest_starts : (log : List Entry) (xs : List (List Entry)) → Each (StartsWith log) xs → StartsWith log (longest xs)
longest_starts log [] s = (log, refl)
longest_starts log (x ∷ xs) s = longest_of_starts log x xs s.0 s.1

longer_starts : (log x y : List Entry) → StartsWith log x → StartsWith log y → StartsWith (longer x y) x × StartsWith (longer x y) y
longer_starts log x y s t =
    let one = sym s.1 ∙ t.1 in
    ⊎_elim
    (λ (d : (leb (length y) (length x) ≡ true) × (length y ≤ length x)). rw d.0 (starts_itself x, nest y x t.0 s.0 (sym one) d.1))
    (λ (d : (leb (length y) (length x) ≡ false) × (length x < length y)). rw d.0 (nest x y s.0 t.0 one (omega (arith, d.1)), starts_itself y))
    (leb_tells (length y) (length x))

-- a list between two that have the same entries of a session has these too
between : (n : ℕ) (log l x : List Entry) → StartsWith log l → StartsWith l x → entries_of n log ≡ entries_of n x → entries_of n l ≡ entries_of n x
between n log l x s t same =
    let first : entries_of n l ≡ entries_of n x ++ entries_of n t.0 = ap (entries_of n) t.1 ∙ filter-append (λ (e : Entry). e.session == n) x t.0 in
    let whole : entries_of n log ≡ entries_of n l ++ entries_of n s.0 = ap (entries_of n) s.1 ∙ filter-append (λ (e : Entry). e.session == n) l s.0 in
    let no_more : entries_of n t.0 ≡ [] =
    nil_from_length (entries_of n t.0) (omega (arith, ap length first ∙ length-append (entries_of n x) (entries_of n t.0), ap length whole ∙ length-append (entries_of n l) (entries_of n s.0), ap length same)) in
    first ∙ ap (λ (z : List Entry). entries_of n x ++ z) no_more ∙ append-nil (entries_of n x)

-- the seat knows more
abbrev pub SeesMore : List Entry → View → View → Type 0
SeesMore front v w = StartsWith (known_of w) (known_of v) × StartsWith (known_of w) front × (mine_of w ≡ mine_of v) × (start_of w ≡ start_of v)

own_left : (h : Machine) (b n : ℕ) (x mine : List Entry) → split_left (session_view h Idle b x n mine) ≡ session_view h Idle b x n mine
own_left h b n x mine = let same : b - others (session_view h Idle b x n mine) * max_calls ≡ b = omega arith in ap (λ (c : ℕ). session_view h Idle c x n mine) same

own_right : (h : Machine) (b n : ℕ) (x mine : List Entry) → split_right (session_view h Idle b x n mine) ≡ moment_view h x
own_right h b n x mine = let none_left : others (session_view h Idle b x n mine) * max_calls ≡ 0 = omega arith in ap (λ (c : ℕ). record (moment_view h x) { budget = c }) none_left

module _ {F J : Type 0} where
  -- the seat of a session keeps its session
  pub keeps_own : (number : ℕ) (m m' : M F J) → IsIdle number m → m' ≡ (split_left m.0, m.1) → m' ≡ m
  keeps_own number m m' e is =
      is ∙ ap (λ (z : M F J). (split_left z.0, z.1)) e ∙ ap (λ (v : View). (v, [])) (own_left (start_of m.0) m.0.budget number (known_of m.0) (mine_of m.0)) ∙ sym e

  -- the seat that is split off it knows the same, and owns no session
  pub shows : (number : ℕ) (m m' : M F J) → IsIdle number m → m' ≡ (split_right m.0, []) → m' ≡ (moment_view (start_of m.0) (known_of m.0), [])
  shows number m m' e is = is ∙ ap (λ (z : M F J). (split_right z.0, [])) e ∙ ap (λ (v : View). (v, [])) (own_right (start_of m.0) m.0.budget number (known_of m.0) (mine_of m.0))

  abbrev pub Joined : ℕ → (M F J) → List Entry → (M F J) → Type 0
  Joined number m front m' = m' ≡ (both (session_view (start_of m.0) Idle m.0.budget (known_of m.0) number (mine_of m.0)) (moment_view (start_of m.0) front), [])

  pub joined_is : (number : ℕ) (m n m' : M F J) → m ≡ (session_view (start_of m.0) Idle m.0.budget (known_of m.0) number (mine_of m.0), []) → n ≡ (moment_view (start_of m.0) (known_of n.0), []) → m' ≡ (both m.0 n.0, m.1) → Joined number m (known_of n.0) m'
  joined_is number m n m' e d is = is ∙ (λ i. (both (e i).0 (d i).0, (e i).1))

  pub has_learned : (number slots found : ℕ) (front : List Entry) (m m₁ m₂ : M F J) → Joined number m front m₁ → looked (step slots 0 0 0 none) m₁ found m₂ → IsLegal (start_of m.0) (known_of m.0) → IsLegal (start_of m.0) front → entries_of number (known_of m.0) ≡ mine_of m.0
      → HasLearned m.0 number front m₂
  has_learned number slots found front m m₁ m₂ is t legal legal_front own =
      let at = rw is at t in
      let log : List Entry = at.0 in
      let s : StartsWith log (known_of m.0) = at.1.0 in
      let s' : StartsWith log front = at.1.1.0 in
      let starts = longer_starts log (known_of m.0) front s s' in
      let none_added : m.0.budget + 0 ≡ m.0.budget = omega arith in (
        longer (known_of m.0) front,
        rw none_added at at.3,
        starts.0,
        starts.1,
        longer_is (IsLegal (start_of m.0)) (known_of m.0) front legal legal_front,
        between number log _ (known_of m.0) (longer_is (StartsWith log) (known_of m.0) front s s') starts.0 (at.2.0 ∙ sym own) ∙ own,
      )

  -- the same of a session, which keeps a badge between two calls
  pub badge_learns : (number calls : ℕ) (front : List Entry) (views views' : List View) (m m' : M F J) → IsSettled number calls (view_in views) → views ≡ m.0 ∷ [] → HasLearned m.0 number front m' → views' ≡ m'.0 ∷ []
      → (views' ≡ view_in views' ∷ []) × IsSettled number calls (view_in views') × SeesMore front (view_in views) (view_in views')
  badge_learns number calls front views views' m m' rested was t is =
      let s = rw was at rested in
      let budget : m.0.budget ≡ max_calls - calls = ap (λ (z : View). z.budget) s.0 in
      let now = ap (λ (z : M F J). z.0) t.1 in
      let done = settled (start_of m.0) m.0.budget number calls t.0 (mine_of m.0) m'.0 budget t.4 t.5 now in
      rw (is, was) (refl, done, rw now (t.2, t.3, refl, refl))

pub calls_in_order : CallsInOrder
calls_in_order v v' w w' s t r q journal first made known second told stands =
    let e : Entry = entry v.uid v.number s r in
    let f : Entry = entry w.uid w.number t q in
    let earlier : Makes v s r v' = subst (λ (b : Bool). MatchBool b (StartsWith v'.known v.known × (v'.mine ≡ v.mine)) (Makes v s r v')) made first.1.1 in
    let later : Makes w t q w' = subst (λ (b : Bool). MatchBool b (StartsWith w'.known w.known × (w'.mine ≡ w.mine)) (Makes w t q w')) told second.1.1 in
    let log : List Entry = earlier.0 in
    let behind : StartsWith later.0 v'.known = starts_through later.0 w.known v'.known later.1 known in
    let mid : List Entry = behind.0 in
    let rest : List Entry = stands.0.0 in (
      log,
      mid,
      rest,
      stands.0.1
          ∙ ap (λ (z : List Entry). z ++ rest) later.2
          ∙ append_assoc later.0 (f ∷ []) rest
          ∙ ap (λ (z : List Entry). z ++ f ∷ rest) behind.1
          ∙ ap (λ (z : List Entry). z ++ mid ++ f ∷ rest) earlier.2
          ∙ ap (λ (z : List Entry). z ++ f ∷ rest) (append_assoc log (e ∷ []) mid),
    )
