-- The answers of the transcripts of scripts.
use Rattle.std.proofs.Common.{◌≡◌, ℕ, suc, ◌<◌, ◌≤◌, List, [], ◌∷◌, ◌++◌, drop, length, get_or, map, Option, Some, None, refl, sym, ap, ap₂, subst, ◌∙◌, arith}
use mathlib.Core.List.{map-map}
use Rattle.scenario.proofs.CommonNames.{All, Vec, vec_len, Global, flat_map, AllByRecursion, length-map, get_or-map, All-from_recursion, recursion_from_All, Reply, Users, Machine, empty, PlainStep, Entry, BoxedScript, boxed_script, own_step, AllPlay}
use Rattle.scenario.proofs.CommonNames.{AllTell, OwnEntries, AllAnswer, AreFew, Ran, Plan, max_steps, Style, shown, shown_grouped, answers_by_scripts, replies_in, scripts_in, text_in, told_by, told_to, AreMade, IsMade, Shows, All-map, All-imply}
use Rattle.std.specs.Prelude.{String, string_bytes}
use Rattle.host_lock.specs.Journal.{IsLegal, replay}
use Rattle.host_lock.specs.Limits.{max_calls}
use Rattle.host_lock.specs.Sessions.{IsBelow}
use Rattle.sessions.specs.declared.script.Transcript.{Transcript}
use Rattle.sessions.proofs.Pairing.{answers_of as script_answers}
use Rattle.scenario_runs.specs.declared.running.LineOptions.{LineOptions}
use Rattle.scenario_runs.specs.Runs.{answers_of}
use Rattle.scenario.specs.declared.lines.LineReport.{LineReport}
use Rattle.scenario.specs.declared.lines.UserLines.{UserLines}
use Rattle.scenario.proofs.ScriptLemmas.{IsScript, are_scripts, few_scripts, shown_scripts}
use Rattle.scenario.proofs.SessionLemmas.{IsReply, IsPlayed, ArePlayed, RanBySessions, no_answers, told_by_scripts, users_of_scripts}
use Rattle.scenario.proofs.GroupLemmas.{shown_plan}

-- transcripts of any reports that tell what replies they were made of
module _ {T : Type 0} (made_of : T → List Reply) where
  abbrev pub plain_transcript : Transcript T → ℕ × List Reply
  plain_transcript t = (t.uid, made_of t.replies)

  played : (log : List Entry) (ps : List (ℕ × List PlainStep)) (ts : List (Transcript T)) → AllAnswer made_of log ps ts → ArePlayed log ps (map plain_transcript ts)
  played log ps [] all k s t h = let none = all.0 in absurd (omega arith)
  played log ps (y ∷ ys) all k s t h =
      let told : k < length (y ∷ ys) = subst (λ n. k < n) (sym all.0) h in
      subst (λ q. IsPlayed log k (get_or ps k s) q) (sym (get_or-map plain_transcript (y ∷ ys) k y t told)) (all.1 k s y h)

  ran_by_sessions : (plan : Plan) (h : Machine) (ts : List (Transcript T)) → Users plan.steps → (ran : Ran made_of (empty plan.settings) (scripts_in plan.steps) h ts) → AllByRecursion (λ (t : Transcript T). AreMade (made_of t.replies)) ts
      → RanBySessions plan ran.0 (map plain_transcript ts)
  ran_by_sessions plan h ts all ran made = record {
    users = all;
    below = recursion_from_All (IsBelow (length (scripts_in plan.steps))) ran.0 ran.1.entries;
    long = length-map ts plain_transcript ∙ ran.1.transcripts.0;
    played = played ran.0 (scripts_in plan.steps) ts ran.1.transcripts;
    own = ran.1.own;
    made = All-map plain_transcript (λ (t : Transcript T). AreMade (made_of t.replies)) (λ t. AllByRecursion IsReply t.1) (λ t is. is) ts made;
  }

  -- if memory didn't run out, each transcript has the machine's answers to its user
  pub told_in_all : (plan : Plan) (h : Machine) (ts : List (Transcript T)) → Users plan.steps → Ran made_of (empty plan.settings) (scripts_in plan.steps) h ts → AllByRecursion (λ (t : Transcript T). AreMade (made_of t.replies)) ts
      → map (λ (t : Transcript T). told_to t.uid (made_of t.replies)) ts ≡ answers_by_scripts plan
  told_in_all plan h ts all ran made = sym (map-map (λ (t : ℕ × List Reply). told_to t.0 t.1) plain_transcript ts) ∙ told_by_scripts plan ran.0 (map plain_transcript ts) (ran_by_sessions plan h ts all ran made)

  -- and its user is the script's
  pub users_in_all : (plan : Plan) (h : Machine) (ts : List (Transcript T)) → Users plan.steps → Ran made_of (empty plan.settings) (scripts_in plan.steps) h ts → AllByRecursion (λ (t : Transcript T). AreMade (made_of t.replies)) ts
      → map (λ (t : Transcript T). t.uid) ts ≡ map (λ (s : ℕ × List PlainStep). s.0) (scripts_in plan.steps)
  users_in_all plan h ts all ran made = sym (map-map (λ (t : ℕ × List Reply). t.0) plain_transcript ts) ∙ users_of_scripts plan ran.0 (map plain_transcript ts) (ran_by_sessions plan h ts all ran made)

-- the scripts are few, and each is short
pub few : {F T : Type 0} (ss : List (BoxedScript F T)) (plan : Plan) → map boxed_script ss ≡ scripts_in plan.steps → length ss ≤ 64
few {F} {T} ss plan scripts = let long : length ss ≡ length (scripts_in plan.steps) = sym (length-map ss (boxed_script {F = F} {T = T})) ∙ ap length scripts in subst (λ n. n ≤ 64) (sym long) (few_scripts plan.steps)

pub are_few : (plan : Plan) → length plan.steps ≤ max_steps → All AreFew (scripts_in plan.steps)
are_few plan small =
    All-from_recursion AreFew (scripts_in plan.steps) (All-imply (IsScript plan.steps) AreFew (λ p is. let here = is.short in omega arith) (scripts_in plan.steps) (are_scripts plan.steps))

each_few : {F T : Type 0} (ss : List (BoxedScript F T)) → AllByRecursion AreFew (map boxed_script ss) → AllByRecursion (λ (s : BoxedScript F T). vec_len s.steps ≤ max_calls) ss
each_few [] small = tt
each_few (s ∷ rest) small = (omega (arith, s.steps.ok.0, length-map s.steps.items own_step, small.0), each_few rest small.1)

pub few_each : {F T : Type 0} (ss : List (BoxedScript F T)) (plan : Plan) → map boxed_script ss ≡ scripts_in plan.steps → length plan.steps ≤ max_steps → All (λ (s : BoxedScript F T). vec_len s.steps ≤ max_calls) ss
few_each {F} {T} ss plan scripts small =
    All-from_recursion (λ (s : BoxedScript F T). vec_len s.steps ≤ max_calls) ss
    (each_few ss (recursion_from_All AreFew (map boxed_script ss) (subst (λ (ps : List (ℕ × List PlainStep)). All AreFew ps) (sym scripts) (are_few plan small))))

-- the clauses of a run, as one fact of the scripts' users and steps
pub ran_of : {F T O : Type 0} (made_of : O → List Reply) (m h : Machine) (ss : Vec (BoxedScript F T) Global) (log : List Entry) (ts : List (Transcript O)) → IsLegal m log → h ≡ replay m log → All (IsBelow (vec_len ss)) log
    → AllPlay boxed_script made_of log ss.items ts → OwnEntries m log → Ran made_of m (map boxed_script ss.items) h ts
ran_of {F} {T} {O} made_of m h ss log ts legal host entries plays own = (
  log,
  record {
    legal = legal;
    host = host;
    entries = subst (λ (n : ℕ). All (IsBelow n) log) (ss.ok.0 ∙ sym (length-map ss.items (boxed_script {F = F} {T = T}))) entries;
    transcripts = script_answers boxed_script made_of log ss.items ts plays.0 plays.1;
    own = own;
  },
)

-- each transcript has its lines
pub shows_each : {F : Type 0} (options : LineOptions) (ss : List (BoxedScript F LineReport)) (ts : List (Transcript UserLines)) → length ts ≡ length ss → AllTell (λ (s : BoxedScript F LineReport) u lines. Shows s.report.options u lines) ss ts
    → AllByRecursion (λ (s : BoxedScript F LineReport). s.report.options ≡ options) ss → AllByRecursion (λ (t : Transcript UserLines). Shows options t.uid t.replies) ts
shows_each options ss [] long tells all = tt
shows_each options [] (t ∷ ts) long tells all = absurd (omega arith)
shows_each options (s ∷ ss) (t ∷ ts) long tells all = (
  subst (λ o. Shows o t.uid t.replies) all.0 (tells 0 s t (omega arith)),
  shows_each options ss ts (omega arith) (λ k a b lt. tells (suc k) a b (omega arith)) all.1,
)

-- so their texts are what is shown of their answers, and memory ran out for no step
pub texts_shown : (options : LineOptions) (ts : List (Transcript UserLines)) (texts : List (String Global)) → AllByRecursion (λ (t : Transcript UserLines). Shows options t.uid t.replies) ts → map text_in ts ≡ map (λ text. Some text) texts
    → (flat_map string_bytes texts ≡ flat_map (shown options.style options.user) (map told_by ts)) × AllByRecursion IsMade ts
texts_shown options [] [] all same = (refl, tt)
texts_shown options [] (x ∷ xs) all same = let none = ap length same in absurd (omega arith)
texts_shown options (t ∷ ts) [] all same = let none = ap length same in absurd (omega arith)
texts_shown options (t ∷ ts) (x ∷ xs) all same =
    let later = texts_shown options ts xs all.1 (ap (drop 1) same) in
    let first : t.replies.text ≡ Some x = cc in
    let here = rw first at all.0 in
    (ap₂ (λ (a b : List ℕ). a ++ b) here.0 later.0, (here.1, later.1))

-- what is shown of each is the text, grouped by user
pub shown_transcripts : (style : Style) (user : Option ℕ) (plan : Plan) → Users plan.steps → flat_map (shown style user) (answers_by_scripts plan) ≡ shown_grouped style user (answers_of plan)
shown_transcripts style user plan all =
    shown_scripts (shown style user) 64 1001 plan.steps (answers_of plan) (shown_nothing user) (no_answers plan) ∙ shown_plan style user plan all
  where
    shown_nothing : (user : Option ℕ) → shown style user [] ≡ []
    shown_nothing None = refl
    shown_nothing (Some u) = refl
