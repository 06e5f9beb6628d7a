-- Each step keeps the rule.
use Rattle.host_lock.proofs.CommonNames.{◌≡◌, ◌≢◌, ℕ, zero, suc, ◌+◌, ◌*◌, ◌%◌, ◌^◌, ◌<◌, ◌≤◌, true, false, List, [], ◌∷◌, ◌++◌, length, set, take, drop, sym, refl, ap, ◌∙◌, subst, ◌⊎◌, ⊎_elim, inl, inr, arith, eq-eqb, ne_eqb, length-append, append-nil, none}
use Rattle.host_lock.proofs.CommonNames.{some, ℕ_discrete, set_else, get_elem?, State, step, keeps, takes, gives, Allows, Splits, Joins, opening, Final, Seen, Machine, PlainStep, Entry, Stage, Idle, Waiting, Holding}
use Rattle.host_lock.proofs.CommonNames.{Counted, Account, View, spent, HostSlot, Present, Taken, History, history, StartsWith, next_entry, M, total, Each, once, has_ticket, has_slot, owes, times, Matches, AtTurn, Fits, ticket_of}
use Rattle.host_lock.proofs.CommonNames.{slot_of, number_of, parts_of, budget_of, calls_of, InSlot, SharedInvariant, snapshot_of, drawn, taken, drew, awaits, looked, longest, others, split_left, split_right, first_known, counted, released}
use Rattle.host_lock.proofs.CommonNames.{fresh, opening_view, both, session_view, Closes, Tells, start_of, known_of, mine_of, dite, TakesSlot, max_sessions, max_calls}
use Rattle.std.proofs.Math.Nat.{mod-eq_of_lt}
use Rattle.std.proofs.lemmas.List.{take-append-drop}
use mathlib.Core.Option as maybe
use Rattle.host_lock.proofs.Logs.{entries_mine, entries_other, starts_longer}
use Rattle.host_lock.proofs.Moments.{longest_starts}
use Rattle.host_lock.proofs.Totals.{once_same, once_else, total_set, total_snoc, total_one, total_two, total_find, seats_set, seats_snoc, each_map, each_append, each_left, each_right}

-- the next number of a word, which does not wrap
no_wrap : (x : ℕ) → x < max_sessions * max_calls → (x + 1) % 18446744073709551616 ≡ x + 1
no_wrap x small = let lt : x + 1 < 18446744073709551616 = omega arith in mod-eq_of_lt lt

-- a seat with the slot has the ticket that is served, and knows the whole log
holder : (serving : ℕ) (log : List Entry) (g : Stage) (known : List (List Entry)) → has_slot g ≡ 1 → AtTurn serving log g known → ((t : ℕ) → has_ticket t g ≡ once serving t) × (known ≡ log ∷ [])
holder serving log Idle known out turn = absurd (omega arith)
holder serving log (Waiting q) known out turn = absurd (omega arith)
holder serving log (Holding q) known out turn = (λ t. ap (λ (x : ℕ). once x t) turn.0, turn.1)
holder serving log (Counted q) known out turn = (λ t. ap (λ (x : ℕ). once x t) turn.0, turn.1)

not_holder : (serving : ℕ) (log : List Entry) (g : Stage) (known : List (List Entry)) → has_slot g ≡ 0 → AtTurn serving log g known
not_holder serving log Idle known none_out = tt
not_holder serving log (Waiting q) known none_out = tt
not_holder serving log (Holding q) known none_out = absurd (omega arith)
not_holder serving log (Counted q) known none_out = absurd (omega arith)

awaits_tells : (n : ℕ) (g : Stage) → ((awaits n g ≡ true) × (g ≡ Waiting n)) ⊎ (awaits n g ≡ false)
awaits_tells n Idle = inr refl
awaits_tells n (Waiting t) = dite (ℕ_discrete n t) (λ e. inl (eq-eqb n t e, ap Waiting (sym e))) (λ ne. inr (ne_eqb n t ne))
awaits_tells n (Holding t) = inr refl
awaits_tells n (Counted t) = inr refl

times_append : (q : ℕ) (l m : List Account) → times q (l ++ m) ≡ times q l + times q m
times_append q [] m = omega arith
times_append q (x ∷ xs) m = let r = times_append q xs m in omega arith

pub fresh_length : (i k : ℕ) → length (fresh i k) ≡ k
fresh_length i zero = refl
fresh_length i (suc k) = let r = fresh_length (i + 1) k in omega arith

-- whatever is counted, the seats of m have as much as those of l, with news in place of olds
abbrev Trade : List View → List View → List View → List View → Type 0
Trade l m olds news = (f : View → ℕ) → total f m + total f olds ≡ total f l + total f news

trade_set : (l : List View) (i : ℕ) (v w : View) → get_elem? l i ≡ some v → Trade l (set l i w) (v ∷ []) (w ∷ [])
trade_set l i v w at f = let s = total_set f l i v w at in omega arith

trade_snoc : (l : List View) (i : ℕ) (v left right : View) → get_elem? l i ≡ some v → Trade l (set l i left ++ right ∷ []) (v ∷ []) (left ∷ right ∷ [])
trade_snoc l i v left right at f = let s = total_set f l i v left at in let t = total_snoc f (set l i left) right in omega arith

-- both have the same except in the slot
record Even (olds news : List View) : Type 0 where
  tickets : (q : ℕ) → total (ticket_of q) news ≡ total (ticket_of q) olds
  numbers : (q : ℕ) → total (number_of q) news ≡ total (number_of q) olds
  parts : total parts_of news ≡ total parts_of olds
  budgets : total budget_of news ≡ total budget_of olds

record Same (olds news : List View) : Type 0 where
  even : Even olds news
  slots : total slot_of news ≡ total slot_of olds
  calls : total calls_of news ≡ total calls_of olds

module _ (h : Machine) (n : ℕ) where
  -- the accounts of another seat, whose numbers differ, match the longer log
  others_match : (log : List Entry) (e : Entry) (l : List Account) → times e.session l ≡ 0 → Each (Matches n log) l → Each (Matches n (log ++ e ∷ [])) l
  others_match log e [] none_of all = tt
  others_match log e (x ∷ xs) none_of all = (
    (entries_other x.number log e (ne_eqb e.session x.number (λ q. let z = once_same x.number e.session (sym q) in absurd (omega arith))) ∙ all.0.0, all.0.1),
    others_match log e xs (omega arith) all.1,
  )

  fresh_before : (q i k : ℕ) → q < i → times q (fresh i k) ≡ 0
  fresh_before q i zero lt = refl
  fresh_before q i (suc k) lt = let r = fresh_before q (i + 1) k (omega arith) in let z = once_else i q (λ e. absurd (omega arith)) in omega arith

  fresh_once : (q i k : ℕ) → times q (fresh i k) ≤ 1
  fresh_once q i zero = omega arith
  fresh_once q i (suc k) =
      dite (ℕ_discrete i q) (λ e. let r = fresh_before q (i + 1) k (omega arith) in let z = once_same i q e in omega arith) (λ ne. let r = fresh_once q (i + 1) k in let z = once_else i q ne in omega arith)

  fresh_match : (i k : ℕ) → i + k ≤ n → Each (Matches n []) (fresh i k)
  fresh_match i zero le = tt
  fresh_match i (suc k) le = ((refl, omega arith), fresh_match (i + 1) k (omega arith))

module _ {F J : Type 0} where
  module _ (h : Machine) (n : ℕ) where
    abbrev Rule : State (HostSlot F J) View → Type 0
    Rule = SharedInvariant h n

    -- the seats' totals stay, except for what the log counts
    keeps_rule : (s : State (HostSlot F J) View) (r : Rule s) (log : List Entry) (homes : List (maybe.Option (HostSlot F J))) (views olds news : List View) → Trade s.views views olds news → Even olds news
        → total calls_of news + length log ≡ total calls_of olds + length r.log → Each (λ (e : Entry). e.session < n) log → InSlot h log views homes
        → ((j : ℕ) (d : View) → get_elem? views j ≡ some d → Fits h n r.serving log d) → Rule record { words = r.serving ∷ r.ticket ∷ length log ∷ []; homes = homes; views = views }
    keeps_rule s r log homes views olds news trade even calls given slot seats =
        let tickets : (q : ℕ) → total (ticket_of q) views ≡ total (ticket_of q) s.views = λ q. let t = trade (ticket_of q) in let e = even.tickets q in omega arith in
        record {
          serving = r.serving;
          ticket = r.ticket;
          log = log;
          words = refl;
          seats = seats;
          slot = slot;
          numbers = λ q. let t = trade (number_of q) in let e = even.numbers q in let o = r.numbers q in omega arith;
          parts = let t = trade parts_of in let e = even.parts in let o = r.parts in omega arith;
          given = given;
          in_order = r.in_order;
          out = λ q lo hi. tickets q ∙ r.out q lo hi;
          past = λ q lo. tickets q ∙ r.past q lo;
          later = λ q hi. tickets q ∙ r.later q hi;
          tickets_left = let t = trade budget_of in let e = even.budgets in let o = r.tickets_left in omega arith;
          calls_left = let t = trade calls_of in let o = r.calls_left in omega arith;
        }

    -- seats share what they have otherwise
    shares : (s : State (HostSlot F J) View) (r : Rule s) (views olds news : List View) → Trade s.views views olds news → Same olds news
        → ((j : ℕ) (d : View) → get_elem? views j ≡ some d → Fits h n r.serving r.log d) → Rule record { words = s.words; homes = s.homes; views = views }
    shares s r views olds news trade same seats =
        let e : total slot_of views ≡ total slot_of s.views = omega (arith, trade slot_of, same.slots) in
        rw r.words (keeps_rule s r r.log s.homes views olds news trade same.even (omega (arith, same.calls)) r.given (rw e r.slot) seats)

    seat_set : (s : State (HostSlot F J) View) (r : Rule s) (l : List View) (id : ℕ) (w : View) → Fits h n r.serving r.log w → ((j : ℕ) (d : View) → get_elem? l j ≡ some d → Fits h n r.serving r.log d)
        → (j : ℕ) (d : View) → get_elem? (set l id w) j ≡ some d → Fits h n r.serving r.log d
    seat_set s r l id w mine all = seats_set (Fits h n r.serving r.log) (Fits h n r.serving r.log) l id w mine (λ j d _ _ k. k) all

    pub draws : (slots id : ℕ) (m : (M F J)) → m.0.stage ≡ Idle → 0 < m.0.budget → Allows Rule slots id m 1 (λ x. (x + 1) % 2 ^ 64) (drew (step slots 1 1 0 none) m)
    draws slots id m idle room s r _ at _ =
        let v : View = m.0 in
        let w : View = drawn v r.ticket in
        let f = r.seats id v at in
        let trade = trade_set s.views id v w at in
        let owed : owes v.stage ≡ 0 = ap owes idle in
        let had : has_slot v.stage ≡ 0 = ap has_slot idle in
        let same : total slot_of (set s.views id w) ≡ total slot_of s.views = omega (arith, trade slot_of) in
        let moved : (q : ℕ) → total (ticket_of q) (set s.views id w) ≡ total (ticket_of q) s.views + once r.ticket q = λ q. let t = trade (ticket_of q) in let z : has_ticket q v.stage ≡ 0 = ap (has_ticket q) idle in omega arith in
        rw r.words (
          w,
          keeps,
          tt,
          record {
            serving = r.serving;
            ticket = r.ticket + 1;
            log = r.log;
            words = ap (λ (x : ℕ). r.serving ∷ x ∷ length r.log ∷ []) (no_wrap r.ticket (omega (arith, r.tickets_left, total_one budget_of s.views id v at)));
            seats = seat_set s r s.views id w (record { start_is = f.start_is; known_is = f.known_is; owns_is = f.owns_is; turn_is = tt; works = omega arith }) r.seats;
            slot = rw same r.slot;
            numbers = λ q. let e = trade (number_of q) in let o = r.numbers q in omega arith;
            parts = omega (arith, trade parts_of, r.parts);
            given = r.given;
            in_order = omega (arith, r.in_order);
            out = λ q lo hi. dite (ℕ_discrete r.ticket q) (λ e. grind (arith, moved q, once_same r.ticket q e, r.later q)) (λ ne. grind (arith, moved q, once_else r.ticket q ne, r.out q));
            past = λ q lo. let z = once_else r.ticket q (omega (arith, r.in_order)) in grind (arith, moved q, z, r.past q);
            later = λ q hi. let z = once_else r.ticket q (omega arith) in grind (arith, moved q, z, r.later q);
            tickets_left = omega (arith, trade budget_of, r.tickets_left);
            calls_left = omega (arith, trade calls_of, r.calls_left);
          },
          refl,
        )

    at_most_one : (s : State (HostSlot F J) View) (r : Rule s) (t : ℕ) → total (ticket_of t) s.views ≤ 1
    at_most_one s r t = grind (arith, r.later t, r.out t, r.past t)

    -- the slot is with no other seat, if each seat with the slot would have more of something than there is
    is_home : (s : State (HostSlot F J) View) (r : Rule s) (id : ℕ) (v : View) (f : View → ℕ) → get_elem? s.views id ≡ some v → has_slot v.stage ≡ 0
        → ((d : View) → has_slot d.stage ≡ 1 → Fits h n r.serving r.log d → total f s.views < f v + f d) → (total slot_of s.views ≡ 0) × (s.homes ≡ some (Present (history h r.log)) ∷ [])
    is_home s r id v f at empty more =
        ⊎_elim (λ (t : (total slot_of s.views ≡ 0) × (s.homes ≡ some (Present (history h r.log)) ∷ [])). t)
        (λ (t : (total slot_of s.views ≡ 1) × (s.homes ≡ none ∷ [])).
        let found = total_find slot_of s.views t.0 in
        let d : View = found.1 in
        let other : id ≢ found.0 = λ e. let same : v ≡ d = maybe.some-injective v d (sym at ∙ ap (get_elem? s.views) e ∙ found.2) in let z : has_slot v.stage ≡ has_slot d.stage = ap slot_of same in let y = found.3 in absurd (omega arith) in
        absurd (omega (arith, total_two f s.views id found.0 v d other at found.2, more d found.3 (r.seats found.0 d found.2))))
        r.slot

    -- if a waiting seat's ticket is served, the host is in its slot
    is_in_slot : (s : State (HostSlot F J) View) (r : Rule s) (id : ℕ) (v : View) → get_elem? s.views id ≡ some v → v.stage ≡ Waiting r.serving
        → (total slot_of s.views ≡ 0) × (s.homes ≡ some (Present (history h r.log)) ∷ [])
    is_in_slot s r id v at waits = is_home s r id v (ticket_of r.serving) at (ap has_slot waits) (λ d out fits.
        let mine : has_ticket r.serving v.stage ≡ once r.serving r.serving = ap (has_ticket r.serving) waits in
        omega (arith, (holder r.serving r.log d.stage d.known out fits.turn_is).0 r.serving, once_same r.serving r.serving refl, at_most_one s r r.serving))

    -- a seat that doesn't have the slot looks at the number served
    pub looks : (slots id : ℕ) (m : (M F J)) → has_slot m.0.stage ≡ 0 → 0 < length m.0.owns → Allows Rule slots id m 0 (λ x. x) (looked (step slots 0 0 0 none) m)
    looks slots id m empty some_session s r _ at _ =
        let v : View = m.0 in
        let f = r.seats id v at in
        let tells : Each (Tells r.log) v.owns = each_map (Matches n r.log) (Tells r.log) v.owns (λ x k. k.0) f.owns_is in
        rw r.words (⊎_elim
        (λ (hit : (awaits r.serving v.stage ≡ true) × (v.stage ≡ Waiting r.serving)).
        let slot = is_in_slot s r id v at hit.1 in
        let w : View = taken v r.serving r.log in
        let owed : owes v.stage ≡ 1 = ap owes hit.1 in
        let even : Even (v ∷ []) (w ∷ []) = record { tickets = λ q. ap (λ (x : ℕ). x + 0) (sym (ap (has_ticket q) hit.1)); numbers = λ q. refl; parts = refl; budgets = refl } in (
          w,
          takes 0 (Present (history h r.log)),
          ap (λ (hs : List (maybe.Option (HostSlot F J))). get_elem? hs 0) slot.1,
          keeps_rule s r r.log (set s.homes 0 none) (set s.views id w) (v ∷ []) (w ∷ []) (trade_set s.views id v w at) even (omega arith) r.given (inr (omega (arith, total_set slot_of s.views id v w at, slot.0), ap (λ (hs : List (maybe.Option (HostSlot F J))). set hs 0 none) slot.1))
              (seat_set s r s.views id w (record { start_is = f.start_is; known_is = (([], sym (append-nil r.log)), tt); owns_is = f.owns_is; turn_is = (refl, refl); works = omega arith }) r.seats),
          (r.log, f.known_is, tells, rw hit.0 (h, f.start_is, refl)),
        ))
        (λ (miss : awaits r.serving v.stage ≡ false).
        let l : List Entry = longest v.known in
        let w : View = record v { known = l ∷ [] } in
        let seats = seat_set s r s.views id w (record { start_is = f.start_is; known_is = (longest_starts r.log v.known f.known_is, tt); owns_is = f.owns_is; turn_is = not_holder r.serving r.log v.stage (l ∷ []) empty; works = f.works }) r.seats in
        let rule = shares s r (set s.views id w) (v ∷ []) (w ∷ []) (trade_set s.views id v w at) (omega arith) seats in (
          w,
          keeps,
          tt,
          subst (λ (ws : List ℕ). Rule record { words = ws; homes = s.homes; views = set s.views id w }) r.words rule,
          (r.log, f.known_is, tells, rw miss refl),
        ))
        (awaits_tells r.serving v.stage))

    -- if the slot is out with a seat, the host is not in it, and no other seat has it
    is_out : (s : State (HostSlot F J) View) (r : Rule s) (id : ℕ) (v : View) → get_elem? s.views id ≡ some v → has_slot v.stage ≡ 1 → (total slot_of s.views ≡ 1) × (s.homes ≡ none ∷ [])
    is_out s r id v at out =
        let one = total_one slot_of s.views id v at in
        ⊎_elim (λ (t : (total slot_of s.views ≡ 0) × (s.homes ≡ some (Present (history h r.log)) ∷ [])). let z = t.0 in absurd (omega arith)) (λ (t : (total slot_of s.views ≡ 1) × (s.homes ≡ none ∷ [])). t) r.slot

    only_holder : (s : State (HostSlot F J) View) (r : Rule s) (id j : ℕ) (v d : View) → j ≢ id → get_elem? s.views id ≡ some v → get_elem? s.views j ≡ some d → has_slot v.stage ≡ 1 → has_slot d.stage ≡ 0
    only_holder s r id j v d ne at at_d out = let two = total_two slot_of s.views j id d v ne at_d at in let one = (is_out s r id v at out).0 in omega arith

    pub counts_up : (slots id b t k u : ℕ) (h₀ : Machine) (x mine : List Entry) (s₀ : PlainStep)
        → Allows Rule slots id (session_view h₀ (Holding t) b x k mine, (0, Taken u (snapshot_of s₀)) ∷ []) 2 (λ x. (x + 1) % 2 ^ 64) (counted (step slots 2 1 0 none) (session_view h₀ (Holding t) b x k mine, (0, Taken u (snapshot_of s₀)) ∷ []))
    counts_up slots id b t k u h₀ x mine s₀ s r _ at _ =
        let v : View = session_view h₀ (Holding t) b x k mine in
        let c : List (ℕ × (HostSlot F J)) = (0, Taken u (snapshot_of s₀)) ∷ [] in
        let e : Entry = next_entry h₀ x u k s₀ in
        let w : View = session_view h₀ (Counted t) b (x ++ e ∷ []) k (mine ++ e ∷ []) in
        let f = r.seats id v at in
        let known : x ≡ r.log = ap first_known f.turn_is.1 in
        let log : List Entry = r.log ++ e ∷ [] in
        let longer : x ++ e ∷ [] ≡ log = ap (λ (l : List Entry). l ++ e ∷ []) known in
        let size : length log ≡ length r.log + 1 = length-append r.log (e ∷ []) in
        let away = is_out s r id v at refl in
        let seats : (j : ℕ) (d : View) → j ≢ id → get_elem? s.views j ≡ some d → Fits h n r.serving r.log d → Fits h n r.serving log d = λ j d ne at_d g.
        let none_theirs : times k d.owns ≡ 0 = omega (arith, total_two (number_of k) s.views j id d v ne at_d at, r.numbers k, once_same k k refl) in record {
          start_is = g.start_is;
          known_is = each_map (StartsWith r.log) (StartsWith log) d.known (λ l q. starts_longer r.log l e q) g.known_is;
          owns_is = others_match h n r.log e d.owns none_theirs g.owns_is;
          turn_is = not_holder r.serving log d.stage d.known (only_holder s r id j v d ne at at_d refl);
          works = g.works;
        } in
        let mine_fits : Fits h n r.serving log w = record {
          start_is = f.start_is;
          known_is = (([], sym longer ∙ sym (append-nil (x ++ e ∷ []))), tt);
          owns_is = ((entries_mine k r.log e (eq-eqb k k refl) ∙ ap (λ (l : List Entry). l ++ e ∷ []) f.owns_is.0.0, f.owns_is.0.1), tt);
          turn_is = (f.turn_is.0, ap (λ (l : List Entry). l ∷ []) longer);
          works = omega arith;
        } in
        let even : Even (v ∷ []) (w ∷ []) = record { tickets = λ q. refl; numbers = λ q. refl; parts = refl; budgets = refl } in
        rw r.words (rw (no_wrap (length r.log) (omega (arith, r.calls_left, total_one calls_of s.views id v at)) ∙ sym size) (
          w,
          keeps,
          tt,
          keeps_rule s r log s.homes (set s.views id w) (v ∷ []) (w ∷ []) (trade_set s.views id v w at) even (omega arith) (each_append (λ (z : Entry). z.session < n) r.log (e ∷ []) r.given (f.owns_is.0.1, tt))
              (inr (omega (arith, total_set slot_of s.views id v w at, away.0), away.1)) (seats_set (Fits h n r.serving r.log) (Fits h n r.serving log) s.views id w mine_fits seats r.seats),
          refl,
        ))

    pub releases : (slots id b k : ℕ) (h₀ : Machine) (x mine : List Entry) (g : Stage) → has_slot g ≡ 1
        → Allows Rule slots id (session_view h₀ g b x k mine, (0, Present (history h₀ x)) ∷ []) 0 (λ x. (x + 1) % 2 ^ 64) (released (step slots 0 1 0 none) (session_view h₀ g b x k mine, (0, Present (history h₀ x)) ∷ []))
    releases slots id b k h₀ x mine g holds s r _ at _ =
        let v : View = session_view h₀ g b x k mine in
        let c : List (ℕ × (HostSlot F J)) = (0, Present (history h₀ x)) ∷ [] in
        let w : View = session_view h₀ Idle b x k mine in
        let f = r.seats id v at in
        let has = holder r.serving r.log g (x ∷ []) holds f.turn_is in
        let known : x ≡ r.log = ap first_known has.1 in
        let away = is_out s r id v at holds in
        let trade = trade_set s.views id v w at in
        let moved : (q : ℕ) → total (ticket_of q) (set s.views id w) + once r.serving q ≡ total (ticket_of q) s.views = λ q. let z = trade (ticket_of q) in let y = has.0 q in omega arith in
        let less : r.serving < r.ticket = grind (arith, r.later r.serving, moved r.serving, once_same r.serving r.serving refl) in
        rw r.words (
          w,
          gives,
          tt,
          record {
            serving = r.serving + 1;
            ticket = r.ticket;
            log = r.log;
            words = ap (λ (z : ℕ). z ∷ r.ticket ∷ length r.log ∷ []) (no_wrap r.serving (omega (arith, r.tickets_left)));
            seats = seats_set (Fits h n r.serving r.log) (Fits h n (r.serving + 1) r.log) s.views id w
                (record { start_is = f.start_is; known_is = f.known_is; owns_is = f.owns_is; turn_is = tt; works = omega arith })
                (λ j d ne at_d q.
                record { start_is = q.start_is; known_is = q.known_is; owns_is = q.owns_is; turn_is = not_holder (r.serving + 1) r.log d.stage d.known (only_holder s r id j v d ne at at_d holds); works = q.works })
                r.seats;
            slot = inl (omega (arith, trade slot_of, away.0), ap (λ (hs : List (maybe.Option (HostSlot F J))). set hs 0 (some (Present (history h₀ x)))) away.1 ∙ ap (λ (z : Machine × List Entry). some (Present (history z.0 z.1)) ∷ []) (λ i. (f.start_is i, known i)));
            numbers = λ q. let y = trade (number_of q) in let o = r.numbers q in omega arith;
            parts = omega (arith, trade parts_of, r.parts);
            given = r.given;
            in_order = omega arith;
            out = λ q lo hi. let z = once_else r.serving q (omega arith) in grind (arith, moved q, z, r.out q);
            past = λ q lo. dite (ℕ_discrete r.serving q) (λ e. grind (arith, moved q, once_same r.serving q e, at_most_one s r q)) (λ e. grind (arith, moved q, r.past q));
            later = λ q hi. grind (arith, moved q, r.later q);
            tickets_left = omega (arith, trade budget_of, r.tickets_left);
            calls_left = omega (arith, trade calls_of, r.calls_left);
          },
          refl,
        )

    -- a seat keeps its first session, and a new one owns the others
    pub splits : (id : ℕ) (v : View) → v.stage ≡ Idle → others v * max_calls ≤ v.budget → Splits Rule id v (split_left v) (split_right v)
    splits id v idle few s r at =
        let left : View = split_left v in
        let right : View = split_right v in
        let f = r.seats id v at in
        let none_v : has_slot v.stage ≡ 0 = ap has_slot idle in
        let whole : take 1 v.owns ++ drop 1 v.owns ≡ v.owns = take-append-drop 1 v.owns in
        let owned : Each (Matches n r.log) (take 1 v.owns ++ drop 1 v.owns) = subst (Each (Matches n r.log)) (sym whole) f.owns_is in
        let numbers : (q : ℕ) → times q (take 1 v.owns) + times q (drop 1 v.owns) ≡ times q v.owns = λ q. sym (times_append q (take 1 v.owns) (drop 1 v.owns)) ∙ ap (times q) whole in
        let parts : length (take 1 v.owns) + length (drop 1 v.owns) ≡ length v.owns = sym (length-append (take 1 v.owns) (drop 1 v.owns)) ∙ ap (λ (l : List Account). length l) whole in
        let same : Same (v ∷ []) (left ∷ right ∷ []) = rw idle (omega (arith, numbers, parts, few)) in
        shares s r (set s.views id left ++ right ∷ []) (v ∷ []) (left ∷ right ∷ []) (trade_snoc s.views id v left right at) same
        (seats_snoc (Fits h n r.serving r.log) (set s.views id left) right
        (record { start_is = f.start_is; known_is = f.known_is; owns_is = each_right (Matches n r.log) (take 1 v.owns) (drop 1 v.owns) owned; turn_is = not_holder r.serving r.log v.stage v.known none_v; works = omega arith })
        (seat_set s r s.views id left
        (record { start_is = f.start_is; known_is = f.known_is; owns_is = each_left (Matches n r.log) (take 1 v.owns) (drop 1 v.owns) owned; turn_is = not_holder r.serving r.log v.stage v.known none_v; works = omega arith })
        r.seats))

    pub joins : (id other : ℕ) (v w : View) → v.stage ≡ Idle → w.stage ≡ Idle → Joins Rule id v other w (both v w) spent
    joins id other v w idle_v idle_w s r at apart at_w' =
        let b : View = both v w in
        let at_w : get_elem? s.views other ≡ some w = sym (set_else s.views id other b apart) ∙ at_w' in
        let f = r.seats id v at in
        let fw = r.seats other w at_w in
        let none_v : has_slot v.stage ≡ 0 = ap has_slot idle_v in
        let same : Same (v ∷ w ∷ []) (b ∷ spent ∷ []) = rw idle_w (omega (arith, times_append, length-append v.owns w.owns)) in
        let trade : Trade s.views (set (set s.views id b) other spent) (v ∷ w ∷ []) (b ∷ spent ∷ []) = λ f. let x = total_set f s.views id v b at in let y = total_set f (set s.views id b) other w spent at_w' in omega arith in
        shares s r (set (set s.views id b) other spent) (v ∷ w ∷ []) (b ∷ spent ∷ []) trade same
        (seat_set s r (set s.views id b) other spent (record { start_is = tt; known_is = tt; owns_is = tt; turn_is = tt; works = omega arith })
        (seat_set s r s.views id b
        (record {
          start_is = f.start_is;
          known_is = each_append (StartsWith r.log) v.known w.known f.known_is fw.known_is;
          owns_is = each_append (Matches n r.log) v.owns w.owns f.owns_is fw.owns_is;
          turn_is = not_holder r.serving r.log v.stage (v.known ++ w.known) none_v;
          works = omega arith;
        })
        r.seats))

    pub opens : n ≤ max_sessions → Rule (opening (0 ∷ 0 ∷ 0 ∷ []) (Present (history h []) ∷ []) (opening_view h n))
    opens few = let v : View = opening_view h n in record {
      serving = 0;
      ticket = 0;
      log = [];
      words = refl;
      seats = seats_snoc (Fits h n 0 []) [] v (record { start_is = refl; known_is = (([], refl), tt); owns_is = fresh_match h n 0 n (omega arith); turn_is = tt; works = omega arith }) (λ j d e. absurd (maybe.some-ne-none d (sym e)));
      slot = inl (refl, refl);
      numbers = λ q. let o = fresh_once h n q 0 n in omega arith;
      parts = let o = fresh_length 0 n in omega arith;
      given = tt;
      in_order = omega arith;
      out = λ t lo hi. absurd (omega arith);
      past = λ t lo. refl;
      later = λ t hi. refl;
      tickets_left = omega arith;
      calls_left = omega arith;
    }

    pub ends : (ws : List ℕ) (xs : List (HostSlot F J)) (id : ℕ) (v : View) → n ≤ length v.owns → v.stage ≡ Idle → Final (Seen Rule id v) ws xs → Closes h n v xs
    ends ws xs id v all idle fin =
        let s : State (HostSlot F J) View = fin.0 in
        let r : Rule s = fin.1.0 in
        let at : get_elem? s.views id ≡ some v = fin.1.1 in
        let f = r.seats id v at in
        let whole = r.parts in
        let slot = is_home s r id v parts_of at (ap has_slot idle) (λ d out fits. let work = fits.works in omega arith) in (
          r.log,
          fin.4 0 (Present (history h r.log)) (ap (λ (hs : List (maybe.Option (HostSlot F J))). get_elem? hs 0) slot.1),
          f.start_is,
          f.known_is,
          f.owns_is,
          r.given,
        )

  -- the view and the slots of a waiting seat
  abbrev pub IsWaiting : ℕ → ℕ → (M F J) → Type 0
  IsWaiting number ticket m = m ≡ (session_view (start_of m.0) (Waiting ticket) m.0.budget (known_of m.0) number (mine_of m.0), [])

  pub takes_slot : (slots number ticket found : ℕ) (m m' : (M F J)) → IsWaiting number ticket m → looked (step slots 0 0 0 none) m found m' → found ≡ ticket → TakesSlot m.0 number ticket m'
  takes_slot slots number ticket found m m' e t is =
      subst (λ (z : (M F J)). looked (step slots 0 0 0 none) z found m' → TakesSlot z.0 number ticket m') (sym e) (takes₀ slots (start_of m.0) m.0.budget number ticket found (known_of m.0) (mine_of m.0) m' is) t
    where
      takes₀ : (slots : ℕ) (h : Machine) (b k ticket found : ℕ) (x mine : List Entry) (m' : (M F J)) → found ≡ ticket → looked (step slots 0 0 0 none) (session_view h (Waiting ticket) b x k mine, []) found m' → TakesSlot (session_view h (Waiting ticket) b x k mine) k ticket m'
      takes₀ slots h b k ticket found x mine m' is t =
          let took = rw (eq-eqb found ticket is) at t.3 in
          (t.0, took.2 ∙ (λ j. (session_view h (Holding (is j)) b t.0 k mine, (0, Present (history (sym took.1 j) t.0)) ∷ [])), t.1.0, t.2.0)

  pub waits_on : (slots number ticket found : ℕ) (m m' : (M F J)) → IsWaiting number ticket m → looked (step slots 0 0 0 none) m found m' → found ≢ ticket → m' ≡ m
  waits_on slots number ticket found m m' e t ne =
      subst (λ (z : (M F J)). looked (step slots 0 0 0 none) z found m' → m' ≡ z) (sym e) (λ (t : looked (step slots 0 0 0 none) (session_view (start_of m.0) (Waiting ticket) m.0.budget (known_of m.0) number (mine_of m.0), []) found m'). rw (ne_eqb found ticket ne) at t.3) t

  pub leaves : (h : Machine) (n slots id number : ℕ) (k : History) (g : Stage) (x : (HostSlot F J)) (v : View) (m : (M F J)) → has_slot g ≡ 1 → v ≡ session_view k.start g v.budget k.log number (mine_of v) → m ≡ (v, (0, Present k) ∷ [])
      → Allows (SharedInvariant h n) slots id m 0 (λ x. (x + 1) % 2 ^ 64) (released (step slots 0 1 0 none) m)
  leaves h n slots id number k g x v m out is now =
      rw (now ∙ ap (λ (z : View). (z, (0, Present k) ∷ [])) is) (releases h n slots id v.budget number k.start k.log (mine_of v) g out)
