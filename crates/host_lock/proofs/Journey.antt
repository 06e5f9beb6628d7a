-- One call, from step to step.
use Rattle.host_lock.proofs.CommonNames.{get_or, ◌≡◌, ℕ, ◌-◌, Bool, true, false, List, [], ◌∷◌, ◌++◌, sym, refl, ap, ◌∙◌, subst, arith, MatchBool, eq-eqb, ◌+◌, rest, Machine, PlainStep, Reply, reply_of, is_memory, Entry, Stage, Idle}
use Rattle.host_lock.proofs.CommonNames.{Holding, Counted, View, HostSlot, Present, Taken, History, history, replay, IsLegal, entries_of, StartsWith, entry, M, snapshot_of, has_slot, session_view, drawn, start_of, known_of, mine_of}
use Rattle.host_lock.proofs.CommonNames.{TakesSlot, HasCounted, HasTurned, IsOut, IsAtRest, view_in, max_calls}
use Rattle.host_lock.proofs.Logs.{entries_mine}

module _ {F J : Type 0} where
  abbrev pub IsIdle : ℕ → (M F J) → Type 0
  IsIdle number m = m ≡ (session_view (start_of m.0) Idle m.0.budget (known_of m.0) number (mine_of m.0), [])

  -- what is known of the host that was taken out
  abbrev pub IsFound : (M F J) → ℕ → ℕ → ℕ → PlainStep → History → (M F J) → Type 0
  IsFound m u number ticket s state m' =
      (start_of m.0 ≡ state.start) × StartsWith state.log (known_of m.0) × (entries_of number state.log ≡ mine_of m.0)
      × (m' ≡ (session_view state.start (Holding ticket) (m.0.budget - 1) state.log number (mine_of m.0), (0, Taken u (snapshot_of s)) ∷ []))

  -- a slot's one value
  one_value : (k k' : History) (x : HostSlot F J) (l others : List (ℕ × HostSlot F J)) → l ≡ (0, Present k) ∷ [] → l ≡ (0, x) ∷ others → x ≡ Present k' → k ≡ k'
  one_value k k' x l others e d is = let at : Present k ≡ x = ap (λ (z : List (ℕ × HostSlot F J)). (get_or z 0 (0, x)).1) (sym e ∙ d) in cc

  pub finds : (m₀ m₁ m₂ m₃ : (M F J)) (u number ticket : ℕ) (s : PlainStep) (state : History) (result : (HostSlot F J)) → IsIdle number m₀ → m₁ ≡ (drawn m₀.0 ticket, m₀.1) → TakesSlot m₁.0 number ticket m₂ → m₂.1 ≡ (0, result) ∷ rest m₂.1
      → result ≡ Present state → m₃ ≡ (m₂.0, (0, Taken u (snapshot_of s)) ∷ rest m₂.1) → IsFound m₀ u number ticket s state m₃
  finds m₀ m₁ m₂ m₃ u number ticket s state result e₀ e₁ t is₂ is e₃ =
      let t' = rw (e₁ ∙ ap (λ (m : (M F J)). (drawn m.0 ticket, m.1)) e₀) at t in
      let held : m₂.1 ≡ (0, Present (history (start_of m₀.0) t'.0)) ∷ [] = ap (λ (m : (M F J)). m.1) t'.1 in
      let home_is : history (start_of m₀.0) t'.0 ≡ state = one_value _ state result m₂.1 (rest m₂.1) held is₂ is in
      subst (λ k. IsFound m₀ u number ticket s k m₃) home_is (refl, t'.2, t'.3, e₃ ∙ ap (λ (m : (M F J)). (m.0, (0, Taken u (snapshot_of s)) ∷ rest m.1)) t'.1)

  pub is_out : (number : ℕ) (m : (M F J)) (k k' : History) (g : Stage) (x : (HostSlot F J)) (b : ℕ) (mine : List Entry) → has_slot g ≡ 1 → m ≡ (session_view k.start g b k.log number mine, (0, x) ∷ []) → k' ≡ k → IsOut number k' m
  is_out number m k k' g x b mine out e is =
      subst (λ (z : History). IsOut number z m) (sym is) (g, x, out, e ∙ ap (λ (z : (M F J)). (session_view k.start g z.0.budget k.log number (mine_of z.0), (0, x) ∷ [])) (sym e))

  -- the call is counted, and the state is as long as what is known
  pub counts_out : (m₀ m₃ m₄ : (M F J)) (u number ticket : ℕ) (s : PlainStep) (state state' : History) (r : Reply) → IsFound m₀ u number ticket s state m₃ → HasCounted m₃.0 u number s ticket m₄
      → r ≡ reply_of u s (replay state.start state.log) → state' ≡ history state.start (state.log ++ entry u number s r ∷ [])
      → m₄ ≡ (session_view state'.start (Counted ticket) (m₀.0.budget - 1) state'.log number (mine_of m₀.0 ++ entry u number s r ∷ []), (0, Taken u (snapshot_of s)) ∷ [])
  counts_out m₀ m₃ m₄ u number ticket s state state' r f c reply is = rw (is, reply) (rw f.3 at c)

  pub turned_none : (m₀ m₃ m₅ : (M F J)) (u number ticket : ℕ) (s : PlainStep) (state state' : History) (r : Reply) → IsFound m₀ u number ticket s state m₃ → is_memory r ≡ true → IsLegal state'.start state'.log → state' ≡ state
      → m₅ ≡ (session_view state'.start Idle m₃.0.budget state'.log number (mine_of m₃.0), []) → HasTurned m₀.0 u number s r m₅
  turned_none m₀ m₃ m₅ u number ticket s state state' r f memory legal same e =
      (state.log, f.1, f.2, rw memory (rw f.0 (rw (sym same) (legal, e ∙ ap (λ (m : (M F J)). (session_view state'.start Idle m.0.budget state'.log number (mine_of m.0), [])) f.3))))

  pub turned_one : (m₀ m₃ m₄ m₅ : (M F J)) (u number ticket : ℕ) (s : PlainStep) (state state' : History) (r : Reply) → IsFound m₀ u number ticket s state m₃ → is_memory r ≡ false → IsLegal state'.start state'.log
      → state' ≡ history state.start (state.log ++ entry u number s r ∷ [])
      → m₄ ≡ (session_view state'.start (Counted ticket) (m₀.0.budget - 1) state'.log number (mine_of m₀.0 ++ entry u number s r ∷ []), (0, Taken u (snapshot_of s)) ∷ [])
      → m₅ ≡ (session_view state'.start Idle m₄.0.budget state'.log number (mine_of m₄.0), []) → HasTurned m₀.0 u number s r m₅
  turned_one m₀ m₃ m₄ m₅ u number ticket s state state' r f memory legal is at e =
      let P : History → Type 0 = λ k. IsLegal k.start k.log × (m₅ ≡ (session_view k.start Idle (m₀.0.budget - 1) k.log number (mine_of m₀.0 ++ entry u number s r ∷ []), [])) in
      let got = subst P is (legal, e ∙ ap (λ (m : (M F J)). (session_view state'.start Idle m.0.budget state'.log number (mine_of m.0), [])) at) in
      (state.log, f.1, f.2, rw memory (rw f.0 got))

-- what a session's type keeps
abbrev pub IsSettled : ℕ → ℕ → View → Type 0
IsSettled number calls v = IsAtRest number calls v × IsLegal (start_of v) (known_of v) × (entries_of number (known_of v) ≡ mine_of v)

pub settled : (h : Machine) (b number calls : ℕ) (log mine : List Entry) (v : View) → b ≡ max_calls - calls → IsLegal h log → entries_of number log ≡ mine → v ≡ session_view h Idle b log number mine → IsSettled number calls v
settled h b number calls log mine v is legal same e = subst (IsSettled number calls) (sym e) (ap (λ (z : ℕ). session_view h Idle z log number mine) is, legal, same)

module _ {F J : Type 0} where
  settles_by : (h : Machine) (b number calls u : ℕ) (s : PlainStep) (r : Reply) (log mine : List Entry) (m : M F J) → b ≡ max_calls - calls → entries_of number log ≡ mine → (c : Bool)
      → MatchBool c (IsLegal h log × (m ≡ (session_view h Idle b log number mine, [])))
      (IsLegal h (log ++ entry u number s r ∷ []) × (m ≡ (session_view h Idle b (log ++ entry u number s r ∷ []) number (mine ++ entry u number s r ∷ []), [])))
      → IsSettled number calls m.0
  settles_by h b number calls u s r log mine m is same true t = settled h b number calls log mine m.0 is t.0 same (ap (λ (z : M F J). z.0) t.1)
  settles_by h b number calls u s r log mine m is same false t =
      let e : Entry = entry u number s r in
      settled h b number calls (log ++ e ∷ []) (mine ++ e ∷ []) m.0 is t.0 (entries_mine number log e (eq-eqb number number refl) ∙ ap (λ (l : List Entry). l ++ e ∷ []) same) (ap (λ (z : M F J). z.0) t.1)

  pub settles : (number calls u : ℕ) (s : PlainStep) (r : Reply) (v : View) (m₅ : M F J) → IsAtRest number calls v → HasTurned v u number s r m₅ → IsSettled number (calls + 1) m₅.0
  settles number calls u s r v m₅ rested t =
      let is : v.budget ≡ max_calls - calls = ap (λ (z : View). z.budget) rested in
      settles_by (start_of v) (v.budget - 1) number (calls + 1) u s r t.0 (mine_of v) m₅ (omega arith) t.2 (is_memory r) t.3

  -- the same of a session, which keeps a badge between two calls
  pub badge_settles : (number calls u : ℕ) (s : PlainStep) (r : Reply) (views views' : List View) (m m₅ : M F J) → IsAtRest number calls (view_in views) → views ≡ m.0 ∷ [] → HasTurned m.0 u number s r m₅ → views' ≡ m₅.0 ∷ []
      → (views' ≡ view_in views' ∷ []) × IsSettled number (calls + 1) (view_in views')
  badge_settles number calls u s r views views' m m₅ rested was turned is =
      rw is (refl, settles number calls u s r m.0 m₅ (rw was at rested) turned)
