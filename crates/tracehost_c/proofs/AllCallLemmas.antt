-- The calls on many handles: what each open handle's history leads to.
use Rattle.std.{proofs.{Common.{◌≡◌, ◌≢◌, ℕ, ◌==◌, true, false, List, [], ◌∷◌, ◌++◌, Option, Some, None, ⊎_elim, refl, sym, ap, ◌∙◌}, lemmas.Bool.{cases_eq, eq-eqb, ne_eqb}}, specs.Prelude.{option_map}}
use Rattle.{step_types.specs.{Plain.PlainStep, declared.Settings.Settings}, tracehost_c.specs.declared.replies.FlatReply.FlatReply}
use Rattle.open_sessions.specs.{Answers.LineReply, Calls.OpenSession, Laws.{Call, AnswersCall, AnswersCalls}}
use Rattle.tracehost_c.specs.Calls.{TypedCall, not_open, no_step, in_session, LineCall, line_not_open, line_no_memory, line_full, line_answered, opened}
use Rattle.tracehost_c.specs.Laws.{HandleCall, typed_call, line_call, Made, answered_call, AnyCall, opens, copies, closes, calls, Handles, MadeOne, AllMadeAt, History, Histories, longer, with_history, after_call, after_calls}
use Rattle.tracehost_c.proofs.LawLemmas.{Outcome, nothing, one, outcome}

-- the history's calls, answered, lead to the session
abbrev pub Led : History → OpenSession → Type 0
Led history s = (answers : List LineReply) × AnswersCalls history.calls (opened history.settings) answers s

-- an open handle has a history, which leads to its session
abbrev pub HasLed : Option History → OpenSession → Type 0
HasLed history s = (own : History) × (history ≡ Some own) × Led own s

abbrev pub Fits : Handles → Histories → Type 0
Fits handles all = (i : ℕ) (s : OpenSession) → handles i ≡ Some s → HasLed (all i) s

-- ---- one more call at the end

answers_more : (cs : List Call) (c : Call) (s t u : OpenSession) (answers : List LineReply) (r : LineReply) → AnswersCalls cs s answers t → AnswersCall c t r u
    → AnswersCalls (cs ++ (c ∷ [])) s (answers ++ (r ∷ [])) u
answers_more [] c s t u [] r before last = (u, rw before at last, refl)
answers_more (d ∷ cs) c s t u (a ∷ answers) r before last = (before.0, before.1, answers_more cs c before.0 t u answers r before.2 last)
answers_more cs c s t u answers r before last = absurd before

led_more : (call : Call) (history : History) (s t : OpenSession) (r : LineReply) → Led history s → AnswersCall call s r t → Led (longer (Some call) history) t
led_more call history s t r led last = (led.0 ++ (r ∷ []), answers_more history.calls call (opened history.settings) s t led.0 r led.1 last)

called : (c : HandleCall) (code : ℕ) (p : OpenSession) (mid : Option OpenSession) (history : History) → Outcome c code p mid → Led history p
    → (s : OpenSession) → mid ≡ Some s → Led (longer (answered_call c code) history) s
called c code p mid history (nothing none same) led s is =
    let now : p ≡ s = cc (same, is) in
    rw none (rw now at led)
called c code p mid history (one call r t made same answers) led s is =
    let now : t ≡ s = cc (same, is) in
    rw made (led_more call history p s r led (rw now at answers))

-- ---- a closed handle stays closed

typed_closed : (user : ℕ) (step : Option PlainStep) (mid : Option OpenSession) (before after : FlatReply) (code : ℕ) → TypedCall user step None mid before after code → mid ≡ None
typed_closed user step mid before after code (not_open is was new still) = new
typed_closed user step mid before after code (no_step is some unknown new still) = new
typed_closed user step mid before after code (in_session p t made user_is is was now steps) = cc was

line_closed : (text : List ℕ) (mid : Option OpenSession) (code : ℕ) → LineCall text None mid code → mid ≡ None
line_closed text mid code (line_not_open is was new) = new
line_closed text mid code (line_no_memory is some new) = new
line_closed text mid code (line_full p is was is_full new) = new
line_closed text mid code (line_answered p t is was now room answers) = cc was

closed : (c : HandleCall) (mid : Option OpenSession) (code : ℕ) → Made c None mid code → mid ≡ None
closed (typed_call user step) mid code made = typed_closed user step mid made.0 made.1 code made.2
closed (line_call text) mid code made = line_closed text mid code made

-- a call on a handle, by what the handle has
made_at : (c : HandleCall) (code : ℕ) (old new : Option OpenSession) (history : Option History) → ((s : OpenSession) → old ≡ Some s → HasLed history s) → Made c old new code
    → (s : OpenSession) → new ≡ Some s → HasLed (option_map (longer (answered_call c code)) history) s
made_at c code None new history before made s is =
    let none : new ≡ None = closed c new code made in
    cc (none, is)
made_at c code (Some p) new history before made s is =
    let own = before p refl in
    (longer (answered_call c code) own.0, ap (option_map (longer (answered_call c code))) own.1, called c code p new own.0 (outcome c p new code made) own.2 s is)

-- ---- the histories after a call

same_fits : (old new : Handles) (all : Histories) → ((i : ℕ) → new i ≡ old i) → Fits old all → Fits new all
same_fits old new all same fits i s is = fits i s (sym (same i) ∙ is)

module _ (h : ℕ) (history : Option History) (all : Histories) where
  with_same : (i : ℕ) → i ≡ h → with_history h history all i ≡ history
  with_same i e = rw (eq-eqb i h e) refl

  with_other : (i : ℕ) → i ≢ h → with_history h history all i ≡ all i
  with_other i ne = rw (ne_eqb i h ne) refl

-- only this handle changed
module _ (h : ℕ) (old new : Handles) (others : (i : ℕ) → i ≢ h → new i ≡ old i) where
  change_fits : (all : Histories) (history : Option History) → Fits old all → ((s : OpenSession) → new h ≡ Some s → HasLed history s) → Fits new (with_history h history all)
  change_fits all history fits own i s is = ⊎_elim
      (λ e. rw (with_same h history all i e) (own s (sym (ap new e) ∙ is)))
      (λ ne. rw (with_other h history all i ne) (fits i s (sym (others i ne) ∙ is)))
      (cases_eq i h)

  all_same : new h ≡ old h → (i : ℕ) → new i ≡ old i
  all_same same i = ⊎_elim (λ e. ap new e ∙ (same ∙ sym (ap old e))) (λ ne. others i ne) (cases_eq i h)

abbrev fresh : Settings → History
fresh settings = record { settings = settings; calls = [] }

kept : (c : AnyCall) (code : ℕ) (old new : Handles) (all : Histories) → MadeOne c old new code → Fits old all → Fits new (after_call c code all)
kept (opens h settings) code old new all made fits = ⊎_elim
    (λ e. rw (eq-eqb code 0 e) (change_fits h old new made.1 all (Some (fresh settings)) fits (λ s is. (fresh settings, refl, ([], cc (made.0.0 e, is))))))
    (λ ne. rw (ne_eqb code 0 ne) (same_fits old new all (all_same h old new made.1 (made.0.1 ne)) fits))
    (cases_eq code 0)
kept (copies from to) code old new all made fits = ⊎_elim
    (λ e. rw (eq-eqb code 0 e) (change_fits to old new made.1 all (all from) fits (λ s is. fits from s (sym (made.0.0 e) ∙ is))))
    (λ ne. rw (ne_eqb code 0 ne) (same_fits old new all (all_same to old new made.1 (made.0.1 ne)) fits))
    (cases_eq code 0)
kept (closes h) code old new all made fits = change_fits h old new made.1 all None fits (λ s is. cc (made.0, is))
kept (calls h c) code old new all made fits =
    change_fits h old new made.1 all (option_map (longer (answered_call c code)) (all h)) fits (made_at c code (old h) (new h) (all h) (fits h) made.0)

pub all_kept : (cs : List AnyCall) (codes : List ℕ) (old now : Handles) (all : Histories) → AllMadeAt cs old codes now → Fits old all → Fits now (after_calls cs codes all)
all_kept [] [] old now all made fits = same_fits old now all made fits
all_kept (c ∷ cs) (code ∷ codes) old now all made fits = all_kept cs codes made.0 now (after_call c code all) made.2 (kept c code old made.0 all made.1 fits)
all_kept cs codes old now all made fits = absurd made

pub none_fit : Fits (λ h. None) (λ h. None)
none_fit i s is = cc is
