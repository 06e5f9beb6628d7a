-- The way down the tracees of a process that ends, and one turn of its end.
use Rattle.trace_stop.proofs.CommonNames.{◌≡◌, ℕ, zero, suc, ◌+◌, ◌-◌, ◌<◌, ◌≤◌, List, Bool, true, false, ◌&&◌, ◌||◌, ◌==◌, Option, Some, None, length, refl, sym, ap, ◌∙◌, arith, true≢false, eq-eqb, eqb-true, subst}
use Rattle.trace_stop.proofs.CommonNames.{unwrap_or, rules, count_by, ltb, MatchOption, nat_tests, AllByRecursion, SIGKILL, ProcData, process_of, is_live, is_this, traces, Rows, next_tracee, InOwnBlock}
use Rattle.trace_stop.proofs.CommonNames.{TableInvariant, LeastOrNone, IsLeast, MidStepInvariant, IsSound, is_live_at, end, tracer_in, tracer_of, meets, dooms, chain, traces_live, end_alone, EndSound, TraceeDoomed}
use Rattle.trace_stop.proofs.CommonNames.{LeafExists, kills, traces_live_above, IsLiveTracee, EndsToo, or_true, and_left, and_right, by_bool, any_holds, All-both, none_of, none_passes, some_is, exists, own_rows}
use Rattle.trace_stop.proofs.CommonNames.{any_by_number, listed, live_row, meets-suc, no_ring, chains_end, chains_meet, tracee_deeper, meets-more, end_at}
use Rattle.proc_table.proofs.Least.{next_tracee-least}
use Rattle.proc_table.proofs.Finds.{below_or_not}
use Rattle.trace_stop.proofs.LeafEnd.{is_kills, leaf_end, leaf_ends_no_other, leaf_end_leaves_fewer}
use Rattle.trace_stop.proofs.LeafEndsFirst.{dooms_is, dooms_meets, q_traced, law, dooms_left}

-- A live tracee

this_is : (x : ℕ) (o : Option ℕ) → is_this x o ≡ true → o ≡ Some x
this_is x o is = grind (arith, nat_tests, is)

tracee_is : (x : ℕ) (rows : Rows) → MidStepInvariant rows → (y : ProcData) → process_of y.pid rows.processes ≡ Some y → (is_live y && traces x y) ≡ true → IsLiveTracee x rows y.pid
tracee_is x rows s y own is = record {
  live = any_by_number is_live y.pid rows.processes s.rising ∙ ap (exists is_live) own ∙ and_left (is_live y) (traces x y) is;
  link = ap tracer_in own ∙ this_is x y.tracer (and_right (is_live y) (traces x y) is);
}

module _ (rows : Rows) (s : MidStepInvariant rows) where
  -- a chain of one link more
  longer : (p x t : ℕ) → tracer_of rows.processes t ≡ Some x → EndsToo p rows x → meets 250 rows.processes p t ≡ true
  longer p x t link ends = let met = dooms_meets rows p x s.rising in
      meets-more 249 rows.processes p t (chains_meet rows 251 p t s (rw (meets-suc 250 rows.processes p t, link) (grind (arith, nat_tests, ends, met))))

  tracee_ends : (p x t : ℕ) → EndsToo p rows x → IsLiveTracee x rows t → ((t == p) ≡ false) × (dooms kills rows.processes p t ≡ true)
  tracee_ends p x t ends is =
      let met = longer p x t is.link ends in
      let other : (t == p) ≡ false = by_bool (t == p) (λ same. true≢false (sym (subst (λ n. meets 250 rows.processes p n ≡ true) (eqb-true t p same) met) ∙ no_ring rows s p)) in
      (other, dooms_is rows p s.rising t (λ same. is.live) ∙ rw (is.live, met) (or_true (t == p)))

  pub ends_below : (p x t : ℕ) → IsLiveTracee x rows t → EndsToo p rows x → EndsToo p rows t
  ends_below p x t is ends = ap (λ b. (t == p) || b) (tracee_ends p x t ends is).1 ∙ or_true (t == p)

  abbrev Leaf : ℕ → Type 0
  Leaf p = (q : ℕ) × ((q == p) ≡ false) × (dooms kills rows.processes p q ≡ true) × (traces_live q rows ≡ false)

  -- each tracee is one link further from where its chain ends
  walk : (p fuel x : ℕ) → 250 < length (chain 250 rows.processes x) + fuel → (x == p) ≡ false → dooms kills rows.processes p x ≡ true → Leaf p
  walk p zero x deep other is = let short = chains_end rows x s in absurd (omega (arith, short, deep))
  walk p (suc fuel) x deep other is = by_leaf (traces_live x rows) refl (walk p fuel)
    where
      by_leaf : (b : Bool) → traces_live x rows ≡ b → ((y : ℕ) → 250 < length (chain 250 rows.processes y) + fuel → (y == p) ≡ false → dooms kills rows.processes p y ≡ true → Leaf p) → Leaf p
      by_leaf false leaf next = (x, other, is, leaf)
      by_leaf true some next = any_holds (λ r. is_live r && traces x r) (λ r. process_of r.pid rows.processes ≡ Some r) (Leaf p)
          (λ r own h.
          let t = tracee_is x rows s r own h in
          let k = tracee_ends p x r.pid (rw is (or_true (x == p))) t in
          let more = tracee_deeper rows r.pid x s t.link in
          next r.pid (omega (arith, deep, more)) k.0 k.1)
          rows.processes (own_rows rows.processes s.rising) some

  pub deeper : (x t : ℕ) → IsLiveTracee x rows t → 250 - length (chain 250 rows.processes t) < 250 - length (chain 250 rows.processes x)
  deeper x t is = search (rules, tracee_deeper, chains_end)

pub tracee_doomed : TraceeDoomed
tracee_doomed settings rows p x y on s is own live = rw (is_kills settings on) (tracee_ends rows s p x y.pid (rw (is_kills settings on) at is) (tracee_is x rows s y own live))

pub leaf_exists : LeafExists
leaf_exists settings rows p x on s other is = rw (is_kills settings on) (walk rows s p 251 x (omega arith) other (rw (is_kills settings on) at is))

-- What a walk over tracees has found

-- no live process that q traces has a number above the first and up to the second
abbrev pub NoneBetween : ℕ → List ProcData → ℕ → ℕ → Type 0
NoneBetween q ps from after = (r : ProcData) → process_of r.pid ps ≡ Some r → from < r.pid → r.pid ≤ after → (is_live r && traces q r) ≡ false

pub none_at_first : (q : ℕ) (ps : List ProcData) (from : ℕ) → NoneBetween q ps from from
none_at_first q ps from = λ r own above less. absurd (omega (arith, above, less))

module _ (q after : ℕ) (rows : Rows) (kept : TableInvariant rows) where
  abbrev ps : List ProcData
  ps = rows.processes

  least : (t : ProcData) → next_tracee q after ps ≡ Some t → IsLeast (traces q) after ps t
  least t at = subst (LeastOrNone (traces q) after ps) at (next_tracee-least q after ps kept.rising)

  pub walk_found : (t : ProcData) → next_tracee q after ps ≡ Some t → is_live t ≡ true → IsLiveTracee q rows t.pid
  walk_found t at live =
      let l = least t at in record {
        live = any_by_number is_live t.pid ps kept.rising ∙ ap (exists is_live) l.row ∙ live;
        link = ap tracer_in l.row ∙ this_is q t.tracer l.passes;
      }

  pub walk_over : (t : ProcData) → next_tracee q after ps ≡ Some t → after < t.pid
  walk_over t at = (least t at).above

  pub walk_more : (t : ProcData) (from : ℕ) → next_tracee q after ps ≡ Some t → is_live t ≡ false → NoneBetween q ps from after → NoneBetween q ps from t.pid
  walk_more t from at ended none = search (rules, below_or_not, by_bool, least, and_right, and_left, some_is)

  pub walk_none : (from : ℕ) → next_tracee q after ps ≡ None → NoneBetween q ps from after → traces_live_above from q rows ≡ false
  walk_none from at none = none_passes _ (λ r. process_of r.pid ps ≡ Some r) (λ r own. grind (arith, nat_tests, subst (LeastOrNone (traces q) after ps) at (next_tracee-least q after ps kept.rising) r own, none r own)) ps (own_rows ps kept.rising)

-- every number is above 0
pub none_above_zero : (q : ℕ) (rows : Rows) → AllByRecursion InOwnBlock rows.processes → traces_live_above 0 q rows ≡ false → traces_live q rows ≡ false
none_above_zero q rows in_own_blocks none =
    none_passes (λ r. is_live r && traces q r) (λ r. InOwnBlock r × ((ltb 0 r.pid && (is_live r && traces q r)) ≡ false)) (λ r h. let low = h.0.block.0 in let is = h.1 in grind (arith, nat_tests, low, is))
    rows.processes (All-both InOwnBlock _ rows.processes in_own_blocks (none_of (λ r. ltb 0 r.pid && (is_live r && traces q r)) rows.processes none))

pub sought : (q : ℕ) (rows : Rows) → AllByRecursion InOwnBlock rows.processes → (o : Option ℕ) → MatchOption o (traces_live_above 0 q rows ≡ false) (IsLiveTracee q rows) → MatchOption o (traces_live q rows ≡ false) (IsLiveTracee q rows)
sought q rows in_own_blocks o is = grind (arith, none_above_zero q rows in_own_blocks)

-- sound rows are sound after the end of a live process
pub end_sound : EndSound
end_sound settings rows p status s word live = search (rules, live_row, end_at)

-- One turn: q ends with p, is not p, and traces no live process
pub record Turn (rows rows' : Rows) (p q : ℕ) : Type 0 where
  pub sound : IsSound rows'
  pub live : is_live_at p rows ≡ true → is_live_at p rows' ≡ true
  pub same : (status : ℕ) → end kills p status rows' ≡ end kills p status rows
  pub fewer : count_by is_live rows'.processes < count_by is_live rows.processes
  pub ends : (o : Option ℕ) → o ≡ tracer_of rows.processes q → EndsToo p rows' (unwrap_or o p)

module _ (rows : Rows) (p q : ℕ) (s : IsSound rows) (other : (q == p) ≡ false) (ends : EndsToo p rows q) (leaf : traces_live q rows ≡ false) where
  doomed : dooms kills rows.processes p q ≡ true
  doomed = ap (λ b. b || dooms kills rows.processes p q) (sym other) ∙ ends

  pub lives : is_live_at q rows ≡ true
  lives = (dooms_meets rows p q s.stands.rising other doomed).0

  abbrev left : Rows
  left = end kills q SIGKILL rows

  turn_ends : (o : Option ℕ) → o ≡ tracer_of rows.processes q → EndsToo p left (unwrap_or o p)
  turn_ends None link = rw (eq-eqb p p refl) refl
  turn_ends (Some t) link =
      let met : dooms kills rows.processes p t ≡ true = rw (← link) at (q_traced rows p q s.stands other doomed leaf) in
      let ring = no_ring rows s.stands q in
      let chained = meets-suc 249 rows.processes q q ∙ ap (exists (λ n. (n == q) || meets 249 rows.processes q n)) (sym link) in
      let was = dooms_left rows p q s.stands other doomed leaf t in
      grind (arith, nat_tests, met, ring, chained, was)

  pub turn : (rows' : Rows) (w : ℕ) → w ≡ SIGKILL → rows' ≡ end_alone q w rows → Turn rows rows' p q
  turn rows' w word ended = rw (ended ∙ ap (λ n. end_alone q n rows) word ∙ sym (leaf_end kills rows q SIGKILL refl s.stands (listed rows q lives) leaf)) record {
    sound = end_sound kills rows q SIGKILL s refl lives;
    live = λ live. let same = leaf_ends_no_other kills rows q SIGKILL p refl s.stands lives leaf in grind (arith, nat_tests, same, live, other);
    same = λ status. sym (law rows p q s.stands other doomed leaf status);
    fewer = leaf_end_leaves_fewer kills rows q SIGKILL refl s.stands lives leaf;
    ends = turn_ends;
  }

-- the last turn
pub last_turn : (rows rows' : Rows) (p status : ℕ) → MidStepInvariant rows → is_live_at p rows ≡ true → traces_live p rows ≡ false → rows' ≡ end_alone p status rows → rows' ≡ end kills p status rows
last_turn rows rows' p status s live leaf ended = ended ∙ sym (leaf_end kills rows p status refl s (listed rows p live) leaf)

pub ruleset walking = (none_at_first, walk_over, walk_more, walk_none)
