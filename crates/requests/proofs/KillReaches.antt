-- A signal sent to one process, and to all others of a user.
use Rattle.requests.proofs.CommonNames.{nat_tests, ◌≡◌, ℕ, ◌-◌, ◌<◌, ◌≤◌, pos, negsuc, Bool, true, false, ◌==◌, ltb, ◌&&◌, not, List, [], ◌∷◌, filter, filter_map, find, Option, Some, None, IfSome}
use Rattle.requests.proofs.CommonNames.{is_none, if◌then◌else◌, refl, sym, ap, ◌∙◌, arith, true≢false, eqb-true, rules, option_map, int_lt, cases_lt, le-leb, AllByRecursion, list_any, ProcData}
use Rattle.requests.proofs.CommonNames.{process_of, is_live, of_user, Rows, visible_process, AllAbove, Rise, InOwnBlock, TableInvariant, process_of-pid, Settings, post, by_bool, All-imply, If_more}
use Rattle.requests.proofs.CommonNames.{some_is, reach, post_if_live, post_all, reached, kill, next_other, refuses, ESRCH, own_rows, process_edited, Reply, ℤ}
use Rattle.std.specs.Int.{FitsUnsignedBits}
use Rattle.requests.proofs.SoundAfterCall.{live_found, live_none}
use Rattle.requests.proofs.ProcessesAbove.{above, above_none, above_first, above_next, next_over}
use Rattle.requests.proofs.RemainAfterPost.{Remain, SameNumber, remain_all, remain_post}

-- One process

module _ (settings : Settings) (s n : ℕ) (rows : Rows) (rise : Rise rows.processes) where
  pub live_posts : list_any (λ p. (p.pid == n) && is_live p) rows.processes ≡ true → (s == 0) ≡ false → post_if_live settings s (process_of n rows.processes) rows ≡ post settings s None n rows
  live_posts live some = by_row (process_of n rows.processes) refl
    where
      by_row : (o : Option ProcData) → process_of n rows.processes ≡ o → post_if_live settings s o rows ≡ post settings s None n rows
      by_row None at = absurd (true≢false (sym live ∙ live_none n rows.processes at))
      by_row (Some p) at =
          let lives : is_live p ≡ true = sym (live_found n rows.processes p rise at) ∙ live in
          rw (lives, some) (ap (λ m. post settings s None m rows) (process_of-pid n p rows.processes at))

  pub dead_posts : list_any (λ p. (p.pid == n) && is_live p) rows.processes ≡ false → post_if_live settings s (process_of n rows.processes) rows ≡ rows
  dead_posts dead = search (rules, live_found)

-- a number that isn't 0 is a signal's
pub passes_signal : (k n : ℕ) → (if k == 0 then None else Some k) ≡ Some n → ((k == 0) ≡ false) × (n ≡ k)
passes_signal k n = search (rules, some_is)

-- What it leaves

remain_posted : (settings : Settings) (s : ℕ) (o : Option ProcData) (rows : Rows) → Remain rows.processes (post_if_live settings s o rows).processes
remain_posted settings s o rows = grind (arith, nat_tests, remain_all, remain_post)

-- an unused number stays free
gone : (f : ProcData → Option ProcData) → ((p : ProcData) → IfSome (f p) (SameNumber p)) → (n : ℕ) (ps : List ProcData) → process_of n ps ≡ None → process_of n (filter_map f ps) ≡ None
gone f same n [] is = refl
gone f same n (p ∷ ps) is = grind (arith, nat_tests, gone f same n ps, same p, is)

-- A list of processes, some of them gone: those get nothing

abbrev Gone : (ProcData → Option ProcData) → Rows → ProcData → Type 0
Gone f rows p = f p ≡ None → process_of p.pid rows.processes ≡ None

module _ (settings : Settings) (s : ℕ) (t : ProcData → Bool) (alike : (p q : ProcData) → SameNumber p q → t q ≡ t p)
    (f : ProcData → Option ProcData) (same : (p : ProcData) → IfSome (f p) (SameNumber p)) where
  still_gone : (n : ℕ) (ps : List ProcData) (rows : Rows) → AllByRecursion (Gone f rows) ps → AllByRecursion (Gone f (post_if_live settings s (process_of n rows.processes) rows)) ps
  still_gone n ps rows all =
      let after = post_if_live settings s (process_of n rows.processes) rows in
      All-imply (Gone f rows) (Gone f after) (λ p was none. let r = remain_posted settings s (process_of n rows.processes) rows in rw r.made (gone r.to r.same p.pid rows.processes (was none))) ps all

  abbrev Passed : List ProcData → Rows → Type 0
  Passed ps rows = post_all settings s (filter t (filter_map f ps)) rows ≡ post_all settings s (filter t ps) rows

  -- the first of them, kept or gone
  pass_one : (p : ProcData) (ps : List ProcData) (rows : Rows) → Gone f rows p
      → Passed ps rows → Passed ps (post_if_live settings s (process_of p.pid rows.processes) rows) → Passed (p ∷ ps) rows
  pass_one p ps rows lost rest after = search (rules, alike)

  passed_over : (ps : List ProcData) (rows : Rows) → AllByRecursion (Gone f rows) ps → Passed ps rows
  passed_over [] rows all = refl
  passed_over (p ∷ ps) rows all = pass_one p ps rows all.0 (passed_over ps rows all.1) (passed_over ps (post_if_live settings s (process_of p.pid rows.processes) rows) (still_gone p.pid ps rows all.1))

-- so the rows may be walked as they are
module _ (settings : Settings) (s : ℕ) (t : ProcData → Bool) (alike : (p q : ProcData) → SameNumber p q → t q ≡ t p) where
  pub as_they_are : (rows after : Rows) → Rise rows.processes → Remain rows.processes after.processes → post_all settings s (filter t after.processes) after ≡ post_all settings s (filter t rows.processes) after
  as_they_are rows after rise r =
      ap (λ ps. post_all settings s (filter t ps) after) r.made ∙ passed_over settings s t alike r.to r.same rows.processes after
      (All-imply (λ p. process_of p.pid rows.processes ≡ Some p) (Gone r.to after) (λ p own none. grind (arith, nat_tests, r, process_edited r.to (λ q. If_more (SameNumber q) (λ k. k.pid ≡ q.pid) (λ k h. h.0) (r.to q) (r.same q)) p.pid rows.processes rise, own, none)) rows.processes (own_rows rows.processes rise))

-- All others of a user

-- how far numbers go on
abbrev pub left : Option ℕ → ℕ
left None = 0
left (Some n) = 65000 - n

abbrev pub is_other : ℕ → ℕ → ProcData → Bool
is_other u caller p = (p.uid == u) && not (p.pid == caller)

-- the rows once those from a number on got the signal
abbrev pub post_rest : Settings → ℕ → ℕ → ℕ → Option ℕ → Rows → Rows
post_rest settings s u caller None rows = rows
post_rest settings s u caller (Some n) rows =
    post_all settings s (above (is_other u caller) n rows.processes) (post_if_live settings s (process_of n rows.processes) rows)

module _ (settings : Settings) (s u caller : ℕ) where
  abbrev others : ℕ → List ProcData → List ProcData
  others n ps = above (is_other u caller) n ps

  abbrev next : ℕ → List ProcData → Option ℕ
  next n ps = option_map (λ p. p.pid) (next_other u caller n ps)

  -- those above a number, by the first of them
  others_are : (n : ℕ) (ps : List ProcData) → Rise ps → others n ps ≡ (elim (next_other u caller n ps) [ None ↦ [] | Some p ↦ p ∷ others p.pid ps ])
  others_are n ps rise = search (rules, above_none, above_next)

  alike : (n : ℕ) (p q : ProcData) → SameNumber p q → (ltb n q.pid && is_other u caller q) ≡ (ltb n p.pid && is_other u caller p)
  alike n p q same = rw (same.0, same.1) refl

  -- one process more
  pub rest_next : (n : ℕ) (rows after : Rows) (at : Option ℕ) → Rise rows.processes → Rise after.processes
      → after ≡ post_if_live settings s (process_of n rows.processes) rows → at ≡ next n after.processes
      → post_rest settings s u caller at after ≡ post_rest settings s u caller (Some n) rows
  rest_next n rows after at rise rises posted is = grind (arith, nat_tests, remain_posted, as_they_are, alike, others_are)

  split : (ps : List ProcData) → filter (λ p. not (p.pid == caller)) (of_user u ps) ≡ filter (is_other u caller) ps
  split [] = refl
  split (p ∷ ps) = grind (arith, nat_tests, split ps)

  pub reach_others : (rows : Rows) → TableInvariant rows → reach u caller (negsuc 0) rows ≡ others 0 rows.processes
  reach_others rows kept = split rows.processes ∙ sym (above_first (is_other u caller) rows.processes kept.in_own_blocks)

  -- if there is none, and if there is one
  pub reached_none : (rows : Rows) → TableInvariant rows → next 0 rows.processes ≡ None → reach u caller (negsuc 0) rows ≡ []
  reached_none rows kept none = search (rules, reach_others, above_none)

  pub reached_others : (at : Option ℕ) (rows : Rows) → TableInvariant rows → at ≡ next 0 rows.processes → is_none at ≡ false
      → ((reached settings s (reach u caller (negsuc 0) rows) rows).reply ≡ Reply.Done)
      × ((reached settings s (reach u caller (negsuc 0) rows) rows).rows ≡ post_rest settings s u caller at rows)
  reached_others at rows kept is some = rw (is, reach_others rows kept, others_are 0 rows.processes kept.rising) (grind (arith, nat_tests, some, is))

  pub next_smaller : (n : ℕ) (ps : List ProcData) (at : Option ℕ) → n < 65000 → at ≡ next n ps → left at < left (Some n)
  next_smaller n ps at below is = grind (arith, nat_tests, next_over (is_other u caller) n ps, is, below)

  -- signal 0 is posted to no process
  module _ (none : (s == 0) ≡ true) where
    unposted : (o : Option ProcData) (rows : Rows) → post_if_live settings s o rows ≡ rows
    unposted None rows = refl
    unposted (Some p) rows = grind (arith, nat_tests, none)

    all_unposted : (ps : List ProcData) (rows : Rows) → post_all settings s ps rows ≡ rows
    all_unposted [] rows = refl
    all_unposted (p ∷ ps) rows = ap (post_all settings s ps) (unposted (process_of p.pid rows.processes) rows) ∙ all_unposted ps rows

    pub rest_unposted : (at : Option ℕ) (rows : Rows) → post_rest settings s u caller at rows ≡ rows
    rest_unposted None rows = refl
    rest_unposted (Some n) rows = ap (post_all settings s (above (is_other u caller) n rows.processes)) (unposted (process_of n rows.processes) rows) ∙ all_unposted (above (is_other u caller) n rows.processes) rows

-- A process by its number

module _ (u n : ℕ) where
  none_of : (ps : List ProcData) → AllByRecursion (λ p. (p.pid == n) ≡ false) ps → filter (λ p. p.pid == n) (of_user u ps) ≡ []
  none_of [] all = refl
  none_of (p ∷ ps) all = grind (arith, nat_tests, none_of ps all.1)

  others_above : (m : ℕ) (ps : List ProcData) → n ≤ m → AllAbove m ps → AllByRecursion (λ p. (p.pid == n) ≡ false) ps
  others_above m [] le over = tt
  others_above m (p ∷ ps) le over = grind (arith, nat_tests, others_above m ps le over.1, le, over)

  abbrev found : List ProcData → Option ProcData
  found ps = find (λ p. (p.pid == n) && (p.uid == u)) ps

  abbrev as_list : Option ProcData → List ProcData
  as_list None = []
  as_list (Some p) = p ∷ []

  only : (ps : List ProcData) → Rise ps → filter (λ p. p.pid == n) (of_user u ps) ≡ as_list (found ps)
  only [] rise = refl
  only (p ∷ ps) rise = search (rules, only ps rise.1, none_of, others_above, eqb-true)

module _ (settings : Settings) (s u n : ℕ) (rows : Rows) (rise : Rise rows.processes) where
  abbrev one : List ProcData
  one = filter (λ p. p.pid == n) (of_user u rows.processes)

  pub unseen_reached : option_map (λ p. p.pid) (visible_process u n rows) ≡ None → one ≡ []
  unseen_reached none = search (rules, only)

  pub seen_reached : (m : ℕ) → option_map (λ p. p.pid) (visible_process u n rows) ≡ Some m
      → ((reached settings s one rows).reply ≡ Reply.Done) × ((reached settings s one rows).rows ≡ post_if_live settings s (process_of m rows.processes) rows)
  seen_reached m some = search (rules, only, some_is)

-- no process has so great a number
pub too_great : (u caller n : ℕ) (rows : Rows) → AllByRecursion InOwnBlock rows.processes → 65000 ≤ n → reach u caller (pos n) rows ≡ []
too_great u caller n rows in_own_blocks great = none_of u n rows.processes (All-imply InOwnBlock (λ p. (p.pid == n) ≡ false)
    (λ p home. by_bool (p.pid == n) (λ e. let same = eqb-true p.pid n e in let high = home.block.1 in let last = home.user.1 in let first = home.user.0 in omega (arith, great))) rows.processes in_own_blocks)

-- a number that is positive, and too great for 32 bits
great_number : (z : ℤ) → int_lt z (pos 1) ≡ false → (FitsUnsignedBits 32 z → ⊥) → (n : ℕ) × (z ≡ pos n) × (65000 ≤ n)
great_number z positive fits = grind (arith, nat_tests, cases_lt)

pub nobody_reached : (settings : Settings) (u caller s : ℕ) (which : ℤ) (rows : Rows) → AllByRecursion InOwnBlock rows.processes → s ≤ 31 → int_lt which (pos 1) ≡ false → (FitsUnsignedBits 32 which → ⊥)
    → kill settings u caller which s rows ≡ refuses ESRCH rows
nobody_reached settings u caller s which rows in_own_blocks signal positive fits = grind (arith, nat_tests, le-leb s 31 signal, too_great u caller (great_number which positive fits).0 rows in_own_blocks (great_number which positive fits).2)
