-- Lists of steps that differ in numbers that a user doesn't see.
use Rattle.visibility.proofs.CommonNames.{◌≡◌, ℕ, List, [], ◌∷◌, Option, refl, sym, ap, ◌∙◌, AllByRecursion, IsUser, visible_process, seen_lwp, Reply, Machine, UserStep, last, replies, asked_by, view, with_view, alone}
use Rattle.visibility.proofs.CommonNames.{Apart, Users, Ran, reply_of, answered, host_after, own_replies, own_view, twin, alone_law, keeps_apart, run_is, seen_alone}
use Rattle.requests.proofs.IsolationOfNewRows.{seen_lwp_same}
use Rattle.requests.proofs.IsolationOfSteps.{seen_same}
use Rattle.visibility.specs.ForeignLists.{AlikeLists, ForeignNumbers, SameIsAlike, SeenByView, AgreeAlike}
use Rattle.visibility.proofs.Foreign.{foreign_number, step_alike_itself}
use Rattle.visibility.proofs.Apart.{alone_is_apart, own_list}
use Rattle.visibility.proofs.Answered.{told_alike, answered_users}

-- a user's own lists, which differ only in numbers that the user doesn't see
pub alike_lists : (u : ℕ) (xs ys : List UserStep) → IsUser u → (m : Machine) → Apart m → AlikeLists u xs ys m
    → (own_replies u xs (view u m) ≡ own_replies u ys (view u m)) × (own_view u xs (view u m) ≡ own_view u ys (view u m))
alike_lists u [] [] user m apart alike = (refl, refl)
alike_lists u (x ∷ xs) (y ∷ ys) user m apart alike =
    let same = foreign_number m u x.step y.step user apart alike.0 in
    let by_x = alone_law m u x.step user apart in
    let by_y = alone_law m u y.step user apart in
    let rest = alike_lists u xs ys user (host_after u x.step m) (keeps_apart m u x.step user apart) alike.1 in
    rw (← by_x.0, ← by_x.1, ← by_y.0, ← by_y.1, ← same.0, ← same.1) (ap (λ rs. reply_of u x.step m ∷ rs) rest.0, rest.1)
alike_lists u xs ys user m apart alike = absurd alike

pub foreign_numbers : ForeignNumbers
foreign_numbers m k u xs ys user all each am ak same alike =
    let a = run_is xs m u user all am in
    let b = run_is ys k u user each ak in
    rw (a.0, a.1, b.0, b.1, ← same) (rw (seen_alone m u user am) at (alike_lists u (asked_by u xs) (asked_by u ys) user (alone u m) (alone_is_apart m u user am) alike))

-- two runs in which some steps ran out of memory
pub foreign_runs : (xs ys : List UserStep) (rs ss : List (Option Reply)) (m k m' k' : Machine) (u : ℕ) → IsUser u → Users xs → Users ys → Apart m → Apart k
    → Ran xs rs m m' → Ran ys ss k k' → view u m ≡ view u k → AgreeAlike u m xs ys rs ss m' k'
foreign_runs xs ys rs ss m k m' k' u user all each am ak ran_m ran_k same alike = told_alike u xs ys rs ss m k m' k' ran_m ran_k
    (foreign_numbers m k u (answered xs rs) (answered ys ss) user (answered_users xs rs all) (answered_users ys ss each) am ak same alike)

-- a user's own lists, in a host without the others
pub alike_alone : (u : ℕ) (xs ys : List UserStep) → IsUser u → AllByRecursion (λ a. a.uid ≡ u) xs → AllByRecursion (λ a. a.uid ≡ u) ys → (m : Machine) → Apart m → AlikeLists u xs ys (alone u m)
    → (replies xs (alone u m) ≡ replies ys (alone u m)) × (view u (last xs (alone u m)) ≡ view u (last ys (alone u m)))
alike_alone u xs ys user mine theirs m apart alike =
    let there = alone_is_apart m u user apart in
    let a = own_list u xs user mine (alone u m) there in
    let b = own_list u ys user theirs (alone u m) there in
    rw (a.0, a.1, b.0, b.1) (alike_lists u xs ys user (alone u m) there alike)

seen_in_view : (m : Machine) (u n : ℕ) → IsUser u → Apart m → (visible_process u n m.rows ≡ visible_process u n (alone u m).rows) × (seen_lwp u n m.rows ≡ seen_lwp u n (alone u m).rows)
seen_in_view m u n user apart = let t = twin u m user apart in (seen_same t.rows n, seen_lwp_same t.rows n)

pub seen_by_view : SeenByView
seen_by_view m k u n user am ak same =
    let a = seen_in_view m u n user am in
    let b = seen_in_view k u n user ak in
    (a.0 ∙ ap (λ v. visible_process u n (with_view u v).rows) same ∙ sym b.0, a.1 ∙ ap (λ v. seen_lwp u n (with_view u v).rows) same ∙ sym b.1)

pub same_is_alike : SameIsAlike
same_is_alike m u [] = tt
same_is_alike m u (x ∷ xs) = (step_alike_itself u m x.step, same_is_alike (host_after u x.step m) u xs)
