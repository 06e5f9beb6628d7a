-- A host whose rows are sound after a step is sound, once the pairs of ended debuggers are gone.
use Rattle.requests.proofs.CommonNames.{◌≡◌, ℕ, ◌+◌, ◌≤◌, List, [], ◌∷◌, length, map, filter, zip, Bool, true, ◌==◌, ◌&&◌, leb, ap, ◌∙◌, arith, eqb-true, subst, eq-eqb, get_or, rules, length-map}
use Rattle.requests.proofs.CommonNames.{nat_tests, AllByRecursion, list_any, list_all, le-leb, IsUser, slot, pid_block, users, ProcData, is_live, Rows, InOwnBlock, is_live_of, sound_rows, IsLiveOf}
use Rattle.requests.proofs.CommonNames.{MidStepInvariant, IsSound, and_left, and_right, both, All-from_list_all, list_all-from_All, any_holds, any_more, IsSound-from, sound_rows-from, user_at}
use Rattle.requests.proofs.CommonNames.{zip_users, Outcome, answers, Reply, Installed, Machine, installed_by, is_live_at, after, sound_installed, sound, ◌<◌, filter-all, All-where, get_or-map}
use Rattle.requests.proofs.CommonNames.{same_lists, get_or_default, InBlock}
use Rattle.std.proofs.lemmas.List.Sums.{length-filter, count_by-le-length}

-- a live process with a number of the user's block is the user's
any_of_user : (rows : Rows) (u n : ℕ) → IsUser u → InBlock (pid_block u) n → (ps : List ProcData) → AllByRecursion InOwnBlock ps
    → list_any (λ p. (p.pid == n) && is_live p) ps ≡ true → list_any (λ p. (p.pid == n) && (p.uid == u) && is_live p) ps ≡ true
any_of_user rows u n user home [] all is = is
any_of_user rows u n user home (p ∷ ps) all is = search (rules, any_of_user rows u n user home ps all.1, and_left, eq-eqb, eqb-true, and_right)

home_of : (rows : Rows) → MidStepInvariant rows → (u n : ℕ) → IsLiveOf rows u n → InBlock (pid_block u) n
home_of rows s u n live = any_holds (λ p. (p.pid == n) && (p.uid == u) && is_live p) InOwnBlock (InBlock (pid_block u) n) (λ p at is. grind (arith, nat_tests, at.block, is)) rows.processes s.in_own_blocks live

-- two lists of one length that agree at each place
pub same_at : {X : Type 0} (xs ys : List X) (e : X) → length xs ≡ length ys → ((k : ℕ) → k < length xs → get_or xs k e ≡ get_or ys k e) → xs ≡ ys
same_at xs ys e same h = same_lists xs ys same (λ k d lt. get_or_default xs k d e lt ∙ h k lt ∙ get_or_default ys k e d (omega (arith, same, lt)))

abbrev pub pairs_test : Rows → ℕ × List Installed → Bool
pairs_test rows x = leb (length x.1) 64 && list_all (λ i. is_live_of rows x.0 i.debugger) x.1

pub rows_sound : (m : Machine) → sound m ≡ true → IsSound m.rows
rows_sound m is = IsSound-from m.rows (and_left (sound_rows m.rows) (sound_installed m) is)

-- What soundness says of a user's pairs
module _ (m : Machine) (is : sound m ≡ true) where
  pub slots_of : length m.installed ≡ 64
  slots_of = eqb-true (length m.installed) 64 (and_left (length m.installed == 64) (list_all (pairs_test m.rows) (zip users m.installed)) (and_right (sound_rows m.rows) (sound_installed m) is))

  pub pairs_of : (u : ℕ) → IsUser u → pairs_test m.rows (u, installed_by u m) ≡ true
  pairs_of u user = user_at (pairs_test m.rows) m.installed [] slots_of (and_right (length m.installed == 64) (list_all (pairs_test m.rows) (zip users m.installed)) (and_right (sound_rows m.rows) (sound_installed m) is)) u user

  pub few_installed : (u : ℕ) → IsUser u → length (installed_by u m) ≤ 64
  few_installed u user = grind (arith, nat_tests, pairs_of u user)

  pub live_pairs : (u : ℕ) → IsUser u → AllByRecursion (λ i. is_live_of m.rows u i.debugger ≡ true) (installed_by u m)
  live_pairs u user = All-from_list_all (λ i. is_live_of m.rows u i.debugger) (installed_by u m) (and_right (leb (length (installed_by u m)) 64) (list_all (λ i. is_live_of m.rows u i.debugger) (installed_by u m)) (pairs_of u user))

pub after_sound : (m : Machine) (o : Outcome) → sound m ≡ true → IsSound o.rows → sound (after m o).machine ≡ true
after_sound m o is s = both (sound_rows o.rows) (sound_installed (after m o).machine) (sound_rows-from o.rows s)
    (both _ _ (eq-eqb (length (map (filter left) m.installed)) 64 (length-map m.installed (filter left) ∙ slots_of m is)) (zip_users (pairs_test o.rows) (map (filter left) m.installed) [] each))
  where
    left : Installed → Bool
    left i = is_live_at i.debugger o.rows

    each : (u : ℕ) → IsUser u → pairs_test o.rows (u, get_or (map (filter left) m.installed) (slot u) []) ≡ true
    each u user =
        let few = few_installed m is u user in
        let count = length-filter left (installed_by u m) in
        let fewer = count_by-le-length left (installed_by u m) in
        rw (get_or-map (filter left) m.installed (slot u) []) (both (leb (length (filter left (installed_by u m))) 64) (list_all (λ i. is_live_of o.rows u i.debugger) (filter left (installed_by u m))) (le-leb (length (filter left (installed_by u m))) 64 (omega (arith, few, count, fewer)))
        (list_all-from_All (λ i. is_live_of o.rows u i.debugger) (filter left (installed_by u m))
        (All-where left (λ i. is_live_of m.rows u i.debugger ≡ true) (λ i. is_live_of o.rows u i.debugger ≡ true)
        (λ i was still. any_of_user o.rows u i.debugger user (home_of m.rows (rows_sound m is).stands u i.debugger was) o.rows.processes s.stands.in_own_blocks still) (installed_by u m) (live_pairs m is u user))))

live_number : (rows : Rows) (u n : ℕ) → IsLiveOf rows u n → is_live_at n rows ≡ true
live_number rows u n is = search (rules, any_more, both, and_left, and_right)

-- no pair of a user goes if each live process stays live
pub left_live : (m : Machine) → sound m ≡ true → (rows : Rows) → ((n : ℕ) → is_live_at n m.rows ≡ true → is_live_at n rows ≡ true) → (u : ℕ) → IsUser u → filter (λ i. is_live_at i.debugger rows) (installed_by u m) ≡ installed_by u m
left_live m is rows stays u user = filter-all (λ i. is_live_at i.debugger rows) (λ i. is_live_of m.rows u i.debugger ≡ true) (λ i was. stays i.debugger (live_number m.rows u i.debugger was)) (installed_by u m) (live_pairs m is u user)

pub all_left : (m : Machine) → sound m ≡ true → (u : ℕ) → IsUser u → filter (λ i. is_live_at i.debugger m.rows) (installed_by u m) ≡ installed_by u m
all_left m is u user = left_live m is m.rows (λ n live. live) u user

-- an answer that changes no row leaves the host
pub answers_same : (m : Machine) (r : Reply) → sound m ≡ true → (after m (answers r m.rows)).machine ≡ m
answers_same m r is = ap (λ xs. record m { installed = xs }) (same_at (map (filter left) m.installed) m.installed [] count at)
  where
    left : Installed → Bool
    left i = is_live_at i.debugger m.rows

    count : length (map (filter left) m.installed) ≡ length m.installed
    count = length-map m.installed (filter left)

    at : (k : ℕ) → k < length (map (filter left) m.installed) → get_or (map (filter left) m.installed) k [] ≡ get_or m.installed k []
    at k lt =
        let small : k < 64 = omega (arith, lt, count, slots_of m is) in
        get_or-map (filter left) m.installed k [] ∙ subst (λ n. filter left (get_or m.installed n []) ≡ get_or m.installed n []) (omega arith) (all_left m is (k + 1001) (omega arith, omega arith))
