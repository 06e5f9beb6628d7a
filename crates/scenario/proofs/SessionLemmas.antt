-- Each transcript of a run by sessions has the machine's answers to its user.
use Rattle.std.proofs.Common.{◌≡◌, ℕ, suc, ◌<◌, ◌==◌, false, List, [], ◌∷◌, length, get_or, map, refl, sym, subst, ap, ap₂, ◌∙◌, arith}
use Rattle.scenario.proofs.CommonNames.{AllByRecursion, nat_tests, get_or-map, All-from_recursion, PlainStep, Reply, Users, empty, UserStep, asked_by, replies}
use Rattle.scenario.proofs.CommonNames.{alone, Entry, entries_by, OwnEntries, Plan, answers_by, answers_by_scripts, scripts_in, told_to, All-both}
use Rattle.requests.specs.Isolation.{replies_to}
use Rattle.step_types.specs.Replies.{is_memory}
use Rattle.trace_rows.proofs.FilteredLists.{filter_same}
use Rattle.host_lock.specs.Journal.{asked, entries_of}
use Rattle.sessions.specs.Made.{made}
use Rattle.sessions.proofs.Schedules.{made_all, made_by}
use Rattle.scenario_runs.specs.Runs.{answers_of}
use Rattle.scenario.proofs.GroupLemmas.{own_answers, alone_answers}
use Rattle.scenario.proofs.ScriptLemmas.{IsScript, RisingFrom, are_scripts, one_script, rising_scripts, user_at}

-- what the k-th script's replies say of the journal
abbrev pub IsPlayed : List Entry → ℕ → ℕ × List PlainStep → ℕ × List Reply → Type 0
IsPlayed log k s t = (t.0 ≡ s.0) × (length t.1 ≡ length s.1) × (entries_of k log ≡ made s.0 k s.1 t.1)

abbrev pub ArePlayed : List Entry → List (ℕ × List PlainStep) → List (ℕ × List Reply) → Type 0
ArePlayed log ss ts = (k : ℕ) (s : ℕ × List PlainStep) (t : ℕ × List Reply) → k < length ss → IsPlayed log k (get_or ss k s) (get_or ts k t)

abbrev pub IsReply : Reply → Type 0
IsReply r = is_memory r ≡ false

-- each entry's user is that of its script
abbrev pub FromScripts : List Entry → List (ℕ × List PlainStep) → Type 0
FromScripts log ss = AllByRecursion (λ e. e.uid ≡ user_at ss e.session) log

from_each : (ss : List (ℕ × List PlainStep)) (log : List Entry) → ((j : ℕ) → j < length ss → AllByRecursion (λ e. e.uid ≡ user_at ss j) (entries_of j log))
    → AllByRecursion (λ e. e.session < length ss) log → FromScripts log ss
from_each ss [] own below = tt
from_each ss (e ∷ rest) own below = (grind (arith, nat_tests, own e.session below.0), from_each ss rest (λ j h. grind (arith, own j h)) below.1)

from_scripts : (log : List Entry) (ss : List (ℕ × List PlainStep)) (ts : List (ℕ × List Reply)) → ArePlayed log ss ts → AllByRecursion (λ e. e.session < length ss) log → FromScripts log ss
from_scripts log ss ts played below =
    from_each ss log (λ j h.
    let here = played j (0, []) (0, []) h in
    let user = get_or-map (λ (s : ℕ × List PlainStep). s.0) ss j (0, []) 0 h in
    rw (here.2, user) (made_by (get_or ss j (0, [])).0 j (get_or ss j (0, [])).1 (get_or ts j (0, [])).1)) below

-- so the entries of a script's user are the script's
own_entries : (m : ℕ) (log : List Entry) (ss : List (ℕ × List PlainStep)) (k : ℕ) → RisingFrom m ss → k < length ss → FromScripts log ss → AllByRecursion (λ e. e.session < length ss) log
    → entries_by (user_at ss k) log ≡ entries_of k log
own_entries m log ss k rises h from below =
    filter_same (λ e. e.uid == user_at ss k) (λ e. e.session == k) (λ e. (e.uid ≡ user_at ss e.session) × (e.session < length ss))
    (λ e from. grind (arith, nat_tests, from.0, one_script m ss e.session k rises from.1 h)) log (All-both (λ e. e.uid ≡ user_at ss e.session) (λ e. e.session < length ss) log from below)

-- what is known of a run's journal and transcripts
pub record RanBySessions (plan : Plan) (log : List Entry) (ts : List (ℕ × List Reply)) : Type 0 where
  pub users : Users plan.steps
  pub below : AllByRecursion (λ e. e.session < length (scripts_in plan.steps)) log
  pub long : length ts ≡ length (scripts_in plan.steps)
  pub played : ArePlayed log (scripts_in plan.steps) ts
  pub own : OwnEntries (empty plan.settings) log
  pub made : AllByRecursion (λ t. AllByRecursion IsReply t.1) ts

told_at : (plan : Plan) (log : List Entry) (ts : List (ℕ × List Reply)) → RanBySessions plan log ts
    → (k : ℕ) (s : ℕ × List PlainStep) (t : ℕ × List Reply) → k < length (scripts_in plan.steps)
    → told_to (get_or ts k t).0 (get_or ts k t).1 ≡ answers_by (get_or (scripts_in plan.steps) k s).0 (answers_of plan)
told_at plan log ts ran k s t h =
    let ss = scripts_in plan.steps in
    let script = get_or ss k s in
    let told = get_or ts k t in
    let played = ran.played k s t h in
    let is : IsScript plan.steps script = All-from_recursion (IsScript plan.steps) ss (are_scripts plan.steps) k s h in
    let from = from_scripts log ss ts ran.played ran.below in
    let user : user_at ss k ≡ script.0 = get_or-map (λ (s : ℕ × List PlainStep). s.0) ss k s 0 h in
    let entries : entries_by script.0 log ≡ made script.0 k script.1 told.1 =
    ap (λ u. entries_by u log) (sym user) ∙ own_entries 1001 log ss k (rising_scripts 64 1001 plan.steps) h from ran.below ∙ played.2 in
    let told_all = All-from_recursion (λ (t : ℕ × List Reply). AllByRecursion IsReply t.1) ts ran.made k t (subst (λ n. k < n) (sym ran.long) h) in
    let all = made_all script.0 k script.1 told.1 played.1 told_all in
    let replied : told.1 ≡ replies (asked_by script.0 plan.steps) (alone script.0 (empty plan.settings)) =
    sym all.1 ∙ ap (map (λ (e : Entry). e.reply)) (sym entries) ∙ (ran.own script.0 is.user).0
    ∙ ap (λ xs. replies xs (alone script.0 (empty plan.settings))) (ap asked entries ∙ all.0 ∙ is.steps) in
    ap₂ told_to played.0 replied ∙ sym (alone_answers script.0 plan is.user ran.users)

-- two lists with the same item at each index
joined : {X Y A : Type 0} (f : X → A) (g : Y → A) (xs : List X) (ys : List Y) → length ys ≡ length xs
    → ((k : ℕ) (x : X) (y : Y) → k < length xs → g (get_or ys k y) ≡ f (get_or xs k x)) → map g ys ≡ map f xs
joined f g [] [] long same = refl
joined f g [] (y ∷ ys) long same = absurd (omega arith)
joined f g (x ∷ xs) [] long same = absurd (omega arith)
joined f g (x ∷ xs) (y ∷ ys) long same = let here = same 0 x y (omega arith) in let later = joined f g xs ys (omega arith) (λ k a b h. same (suc k) a b (omega arith)) in cc

-- a user without steps has no answers
no_replies : (u : ℕ) (xs : List UserStep) (rs : List Reply) → asked_by u xs ≡ [] → replies_to u xs rs ≡ []
no_replies u [] rs none = refl
no_replies u (x ∷ xs) [] none = refl
no_replies u (x ∷ xs) (r ∷ rs) none = grind (arith, none, no_replies u xs rs)

pub no_answers : (plan : Plan) (u : ℕ) → asked_by u plan.steps ≡ [] → answers_by u (answers_of plan) ≡ []
no_answers plan u none =
    own_answers u plan.steps (replies plan.steps (empty plan.settings)) ∙ ap (told_to u) (no_replies u plan.steps (replies plan.steps (empty plan.settings)) none)

pub told_by_scripts : (plan : Plan) (log : List Entry) (ts : List (ℕ × List Reply)) → RanBySessions plan log ts → map (λ t. told_to t.0 t.1) ts ≡ answers_by_scripts plan
told_by_scripts plan log ts ran =
    joined (λ (s : ℕ × List PlainStep). answers_by s.0 (answers_of plan)) (λ (t : ℕ × List Reply). told_to t.0 t.1) (scripts_in plan.steps) ts ran.long (told_at plan log ts ran)

-- the transcripts are of the scripts' users
pub users_of_scripts : (plan : Plan) (log : List Entry) (ts : List (ℕ × List Reply)) → RanBySessions plan log ts → map (λ t. t.0) ts ≡ map (λ (s : ℕ × List PlainStep). s.0) (scripts_in plan.steps)
users_of_scripts plan log ts ran = joined (λ (s : ℕ × List PlainStep). s.0) (λ (t : ℕ × List Reply). t.0) (scripts_in plan.steps) ts ran.long (λ k s t h. (ran.played k s t h).0)
