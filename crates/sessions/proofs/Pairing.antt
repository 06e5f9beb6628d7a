-- Sessions, scripts, outputs and transcripts, place by place.
use Rattle.std.proofs.Common.{◌≡◌, ℕ, zero, suc, ◌+◌, ◌<◌, ◌≤◌, List, [], ◌∷◌, ◌++◌, length, map, Vec, Global, vec_len, slice_index_or, sym, refl, ap, ◌∙◌, subst, arith, All, ◌==◌, false}
use Rattle.sessions.proofs.CommonNames.{AllByRecursion, nat_tests, get_or-map, length-map, All-from_recursion, recursion_from_All, Machine, PlainStep, Entry, entries_of, GivesBack, max_calls, Each, all_of, each_of, SessionData, HostData}
use Rattle.sessions.proofs.CommonNames.{IsBelow, IsOf, InJournal, new_session, new_sessions, SessionScript, SessionOutput, BoxedScript, Transcript, HasMade, Pairs, AllDone, IsDone, IsReady, IsBegun, Drafted, script_report, script_session}
use Rattle.sessions.proofs.CommonNames.{script_steps, output_session, output_transcript, SmallStep, own_step, boxed_script, report_of, uid_of, steps_of, AllPlay, AllTell, OwnEntries, AreFew, Answers, AllAnswer, RanBy}
use mathlib.Core.List.{map-append}
use Rattle.atomic_table.specs.Seated.{TableId}
use Rattle.step_types.specs.declared.Reply.{Reply}
use Rattle.host_lock.specs.declared.host.CloseRefusal.{CloseRefusal}
use Rattle.host_lock.specs.declared.host.CloseRefusal.TheVariants.{Missing}

pub each_snoc : {A : Type 0} (P : A → Type 0) (xs : List A) (x : A) → Each P xs → P x → Each P (xs ++ x ∷ [])
each_snoc P [] x e p = (p, tt)
each_snoc P (y ∷ ys) x e p = (e.0, each_snoc P ys x e.1 p)

-- f of the elements of a list that grew by one
pub map_snoc : {A B : Type 0} (f : A → B) (xs ys : List A) (x : A) (zs : List B) (z : B) → ys ≡ xs ++ x ∷ [] → map f xs ≡ zs → f x ≡ z → map f ys ≡ zs ++ z ∷ []
map_snoc f xs ys x zs z is was e = ap (map f) is ∙ map-append f xs (x ∷ []) ∙ (λ i. was i ++ e i ∷ [])

pub pairs_at : {A B : Type 0} (R : A → B → Type 0) (xs : List A) (ys : List B) → Pairs R xs ys → (k : ℕ) (a : A) (b : B) → k < length xs → R (slice_index_or xs k a) (slice_index_or ys k b)
pairs_at R [] ys p k a b lt = absurd (omega arith)
pairs_at R (x ∷ xs) [] p k a b lt = absurd p
pairs_at R (x ∷ xs) (y ∷ ys) p zero a b lt = p.0
pairs_at R (x ∷ xs) (y ∷ ys) p (suc k) a b lt = pairs_at R xs ys p.1 k a b (omega arith)

pub pairs_length : {A B : Type 0} (R : A → B → Type 0) (xs : List A) (ys : List B) → Pairs R xs ys → length ys ≡ length xs
pairs_length R [] [] p = refl
pairs_length R [] (y ∷ ys) p = absurd p
pairs_length R (x ∷ xs) [] p = absurd p
pairs_length R (x ∷ xs) (y ∷ ys) p = let r = pairs_length R xs ys p.1 in omega arith

-- no session is missing if all are handed in
pub not_missing : {F J : Type 0} (h : HostData) (ss : List SessionData) (r : CloseRefusal F J) → GivesBack h ss r → h.sessions ≤ length ss → ⊥
not_missing h ss (Missing host sessions) back all = absurd (omega (arith, back.2))

pub new_sessions_length : (n : ℕ) (z : TableId) (h : Machine) (us : List ℕ) → length (new_sessions n z h us) ≡ length us
new_sessions_length n z h [] = refl
new_sessions_length n z h (u ∷ us) = let r = new_sessions_length (n + 1) z h us in omega arith

pub new_session_at : (n : ℕ) (z : TableId) (h : Machine) (us : List ℕ) (k : ℕ) (s : SessionData) (u : ℕ) → k < length us → slice_index_or (new_sessions n z h us) k s ≡ new_session (slice_index_or us k u) (n + k) z h
new_session_at n z h [] k s u lt = absurd (omega arith)
new_session_at n z h (v ∷ us) zero s u lt = let e : n ≡ n + 0 = omega arith in ap (λ m. new_session v m z h) e
new_session_at n z h (v ∷ us) (suc k) s u lt = let e : n + 1 + k ≡ n + suc k = omega arith in new_session_at (n + 1) z h us k s u (omega arith) ∙ ap (λ m. new_session (slice_index_or us k u) m z h) e

-- lists of the same elements are as many, and have the same element in each place
pub same_count : {B S C : Type 0} (g : B → C) (f : S → C) (bs : List B) (ss : List S) → map g bs ≡ map f ss → length bs ≡ length ss
same_count g f bs ss same = sym (length-map bs g) ∙ ap length same ∙ length-map ss f

same_at : {B S C : Type 0} (g : B → C) (f : S → C) (bs : List B) (ss : List S) → map g bs ≡ map f ss → (k : ℕ) (b : B) (s : S) → k < length ss → g (slice_index_or bs k b) ≡ f (slice_index_or ss k s)
same_at g f bs ss same k b s lt =
    let len = same_count g f bs ss same in
    sym (get_or-map g bs k b (g b) (omega arith)) ∙ ap (λ l. slice_index_or l k (g b)) same ∙ get_or-map f ss k s (g b) lt

-- answers place by place are all answers, of scripts of either kind
pub answers_of : {S O : Type 0} (f : S → ℕ × List PlainStep) (made_of : O → List Reply) (log : List Entry) (ss : List S) (ts : List (Transcript O)) → length ts ≡ length ss
    → ((k : ℕ) (s : S) (t : Transcript O) → k < length ss → Answers made_of log k (f (slice_index_or ss k s)) (slice_index_or ts k t)) → AllAnswer made_of log (map f ss) ts
answers_of f made_of log [] ts long each = (long, λ k p t lt. absurd (omega arith))
answers_of f made_of log (x ∷ xs) ts long each = (
  long ∙ sym (length-map (x ∷ xs) f),
  λ k p t lt.
      let below : k < length (x ∷ xs) = subst (λ n. k < n) (length-map (x ∷ xs) f) lt in
      subst (λ q. Answers made_of log k q (slice_index_or ts k t)) (sym (get_or-map f (x ∷ xs) k x p below)) (each k x t below),
)

pub plays_of : {S O : Type 0} (f : S → ℕ × List PlainStep) (made_of : O → List Reply) (log : List Entry) (ss : List S) (ts : List (Transcript O)) → AllAnswer made_of log (map f ss) ts → AllPlay f made_of log ss ts
plays_of f made_of log ss ts all = (
  all.0 ∙ length-map ss f,
  λ k s t lt.
      let below : k < length (map f ss) = subst (λ n. k < n) (sym (length-map ss f)) lt in
      subst (λ q. Answers made_of log k q (slice_index_or ts k t)) (get_or-map f ss k s (0, []) lt) (all.1 k (0, []) t below),
)

-- what is known of a run, of the calls that it hands out
module _ {O : Type 0} (made_of : O → List Reply) (m h : Machine) (ps : List (ℕ × List PlainStep)) (log calls : List Entry) (ts : List (Transcript O)) (ran : RanBy made_of m ps log h ts) (kept : calls ≡ log) where
  pub kept_below : (n : ℕ) → length ps ≡ n → All (IsBelow n) calls
  kept_below n count = rw kept (rw count at ran.entries)

  pub kept_plays : {S : Type 0} (f : S → ℕ × List PlainStep) (ss : List S) → ps ≡ map f ss → AllPlay f made_of calls ss ts
  kept_plays f ss same =
      subst (λ (l : List Entry). AllPlay f made_of l ss ts) (sym kept) (plays_of f made_of log ss ts (subst (λ (qs : List (ℕ × List PlainStep)). AllAnswer made_of log qs ts) same ran.transcripts))

  pub kept_own : OwnEntries m calls
  kept_own = rw kept ran.own

-- what was made as the reports have it, in terms of the scripts
pub kept_tells : {S T O : Type 0} (f : S → T) (tells : T → ℕ → O → Type 0) (rs : List T) (ss : List S) (ts : List (Transcript O)) → AllTell tells rs ts → rs ≡ map f ss → AllTell (λ s. tells (f s)) ss ts
kept_tells f tells rs ss ts all same = λ k s t lt.
    let len = length-map ss f in
    let told = subst (λ qs. AllTell tells qs ts) same all k (f s) t (omega (arith, lt, len)) in
    subst (λ r. tells r (slice_index_or ts k t).uid (slice_index_or ts k t).replies) (get_or-map f ss k s (f s) lt) told

pub some_of : (n : ℕ) → (n == 0) ≡ false → 0 < n
some_of n is = grind (arith, nat_tests, is)

module _ {S : Type 0} (f : S → ℕ × List PlainStep) (count : S → ℕ) (counts : (s : S) → count s ≡ length (f s).1) where
  short_each : (ss : List S) → AllByRecursion (λ s. count s ≤ max_calls) ss → AllByRecursion AreFew (map f ss)
  short_each [] short = tt
  short_each (s ∷ rest) short =
      let same = counts s in
      let here = short.0 in
      (omega arith, short_each rest short.1)

  pub short_plain : (ss : List S) → All (λ s. count s ≤ max_calls) ss → All AreFew (map f ss)
  short_plain ss short = All-from_recursion AreFew (map f ss) (short_each ss (recursion_from_All (λ s. count s ≤ max_calls) ss short))

module _ {F T D : Type 0} (drafted : Drafted D T) (h : Machine) (z : TableId) where
  -- what is known of the session scripts that were made of the scripts
  abbrev pub Prepared : List (BoxedScript F T) → List (SessionScript F T D) → Type 0
  Prepared ss js = (map script_session js ≡ new_sessions 0 z h (map uid_of ss)) × (map script_steps js ≡ map steps_of ss) × (map script_report js ≡ map report_of ss) × Each (IsBegun drafted) js

  pub jobs_length : (ss : List (BoxedScript F T)) (js : List (SessionScript F T D)) → Prepared ss js → length js ≡ length ss
  jobs_length ss js p = same_count script_steps steps_of js ss p.1

  pub session_at : (ss : List (BoxedScript F T)) (js : List (SessionScript F T D)) → Prepared ss js → (k : ℕ) (s : BoxedScript F T) (j : SessionScript F T D) → k < length ss → (slice_index_or js k j).session ≡ new_session (slice_index_or ss k s).uid k z h
  session_at ss js p k s j lt =
      let len = jobs_length ss js p in
      let us = length-map ss uid_of in
      let zero_more : 0 + k ≡ k = omega arith in
      sym (get_or-map script_session js k j j.session (omega arith)) ∙ ap (λ l. slice_index_or l k j.session) p.0 ∙ new_session_at 0 z h (map uid_of ss) k j.session s.uid (omega arith)
      ∙ ap (λ m. new_session (slice_index_or (map uid_of ss) k s.uid) m z h) zero_more ∙ ap (λ u. new_session u k z h) (get_or-map uid_of ss k s s.uid lt)

  -- the session scripts can be run on this host
  pub ready : (d : HostData) (ss : List (BoxedScript F T)) (js : List (SessionScript F T D)) → d.id ≡ z → d.start ≡ h → All AreFew (map boxed_script ss) → Prepared ss js → Each (IsReady drafted d) js
  ready d ss js id start short p =
      let len = jobs_length ss js p in
      each_of (IsReady drafted d) js (λ k j lt.
      let s : BoxedScript F T = record { uid = 0; steps = j.steps; report = j.report.value } in
      let script = slice_index_or ss k s in
      let same = same_at script_steps steps_of js ss p.1 k j s (omega arith) in
      let new = session_at ss js p k s j (omega arith) in
      let room = all_of (IsBegun drafted) js p.3 k j lt in
      let all = length-map ss boxed_script in
      let own = subst AreFew (get_or-map boxed_script ss k s (0, []) (omega arith)) (short k (0, []) (omega arith)) in
      let count = script.steps.ok.0 in
      let same_count = length-map script.steps.items own_step in
      let few : vec_len (slice_index_or js k j).steps ≤ max_calls = subst (λ (v : Vec SmallStep Global). vec_len v ≤ max_calls) (sym same) (omega arith) in (
        (ap (λ (x : SessionData). x.host) new ∙ sym id, ap (λ (x : SessionData). x.start) new ∙ sym start),
        ap (λ (x : SessionData). x.calls) new,
        ap (λ (x : SessionData). x.mine) new,
        few,
        room,
      ))

  module _ {O : Type 0} (made_of : O → List Reply) (tells : T → ℕ → O → Type 0) where
    pub done_at : (ss : List (BoxedScript F T)) (js : List (SessionScript F T D)) (ds : List (SessionOutput O)) → Prepared ss js → AllDone made_of tells js ds → (k : ℕ) (s : BoxedScript F T) (d : SessionOutput O) → k < length ss
        → HasMade (new_session (slice_index_or ss k s).uid k z h) (map own_step (slice_index_or ss k s).steps.items) (made_of (slice_index_or ds k d).output) (slice_index_or ds k d).session
        × tells (slice_index_or ss k s).report (slice_index_or ss k s).uid (slice_index_or ds k d).output
    done_at ss [] ds p r k s d lt = let none = jobs_length ss [] p in absurd (omega arith)
    done_at ss (j ∷ others) ds p r k s d lt =
        let js : List (SessionScript F T D) = j ∷ others in
        let len = jobs_length ss js p in
        let did = pairs_at (IsDone made_of tells) js ds r k j d (omega arith) in
        let P : SessionData × Vec SmallStep Global × T → Type 0 =
        λ w. HasMade w.0 (map own_step w.1.items) (made_of (slice_index_or ds k d).output) (slice_index_or ds k d).session × tells w.2 w.0.uid (slice_index_or ds k d).output in
        subst P (λ i. (session_at ss js p k s j lt i, same_at script_steps steps_of js ss p.1 k j s lt i, same_at script_report report_of js ss p.2 k j s lt i)) did

    -- the sessions are still of this host
    pub of_host : (e : HostData) (js : List (SessionScript F T D)) (ds : List (SessionOutput O)) → Each (IsReady drafted e) js → AllDone made_of tells js ds → Each (IsOf e) (map output_session ds)
    of_host e [] [] a r = tt
    of_host e [] (d ∷ ds) a r = absurd r
    of_host e (j ∷ js) [] a r = absurd r
    of_host e (j ∷ js) (d ∷ ds) a r = ((r.0.0.3 ∙ a.0.0.0, r.0.0.4 ∙ a.0.0.1), of_host e js ds a.1 r.1)

    -- each transcript is its script's, and the journal has just its entries
    pub all_play : (log : List Entry) (ss : List (BoxedScript F T)) (js : List (SessionScript F T D)) (ds : List (SessionOutput O)) → Prepared ss js → AllDone made_of tells js ds → (xs : List SessionData) (ts : List (Transcript O)) → xs ≡ map output_session ds → ts ≡ map output_transcript ds → All (InJournal log) xs → AllAnswer made_of log (map boxed_script ss) ts
    all_play log ss js ds p r xs ts is was stands =
        let len = jobs_length ss js p in
        let len' = pairs_length (IsDone {F = F} {T = T} {D = D} made_of tells) js ds r in
        answers_of boxed_script made_of log ss ts (ap length was ∙ length-map ds output_transcript ∙ len' ∙ len)
        (λ k s t lt.
        let d : SessionOutput O = record { session = new_session 0 0 z h; output = t.replies } in
        let did = (done_at ss js ds p r k s d lt).0 in
        let x : SessionOutput O = slice_index_or ds k d in
        let there = ap (λ l. slice_index_or l k t) was ∙ get_or-map output_transcript ds k d t (omega arith) in
        let here : slice_index_or xs k d.session ≡ x.session = ap (λ l. slice_index_or l k d.session) is ∙ get_or-map output_session ds k d d.session (omega arith) in
        let count = ap length is in
        let more = length-map ds output_session in
        let stand : InJournal log x.session = subst (InJournal log) here (stands k d.session (omega arith)) in
        subst (Answers made_of log k (boxed_script (slice_index_or ss k s))) (sym there) (
          did.1,
          did.0,
          ap (λ m. entries_of m log) (sym did.2) ∙ stand.1 ∙ did.6,
        ))

    pub all_tell : (ss : List (BoxedScript F T)) (js : List (SessionScript F T D)) (ds : List (SessionOutput O)) → Prepared ss js → AllDone made_of tells js ds → (ts : List (Transcript O)) → ts ≡ map output_transcript ds → AllTell tells (map report_of ss) ts
    all_tell [] js ds p r ts was = λ k q t lt. absurd (omega arith)
    all_tell (first ∷ rest) js ds p r ts was = λ k q t lt.
        let ss : List (BoxedScript F T) = first ∷ rest in
        let len = jobs_length ss js p in
        let len' = pairs_length (IsDone {F = F} {T = T} {D = D} made_of tells) js ds r in
        let all = length-map ss (report_of {F = F}) in
        let below : k < length ss = omega (arith, all, lt) in
        let d : SessionOutput O = record { session = new_session 0 0 z h; output = t.replies } in
        let done = done_at ss js ds p r k first d below in
        let there = ap (λ l. slice_index_or l k t) was ∙ get_or-map output_transcript ds k d t (omega arith) in
        let user : (slice_index_or ts k t).uid ≡ (slice_index_or ss k first).uid = ap (λ (x : Transcript O). x.uid) there ∙ done.0.1 in
        let made : (slice_index_or ts k t).replies ≡ (slice_index_or ds k d).output = ap (λ (x : Transcript O). x.replies) there in
        let which : slice_index_or (map report_of ss) k q ≡ (slice_index_or ss k first).report = get_or-map report_of ss k first q below in
        let P : T × ℕ × O → Type 0 = λ w. tells w.0 w.1 w.2 in
        subst P (λ i. (sym which i, sym user i, sym made i)) done.1
