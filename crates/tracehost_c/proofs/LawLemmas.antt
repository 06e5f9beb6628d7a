-- The calls on a handle, as calls of its session.
use Rattle.std.{proofs.Common.{◌≡◌, ℕ, List, [], ◌∷◌, Option, Some, None, ◌⊎◌, inl, inr, refl}, specs.Prelude.{Ok}}
use Rattle.{step_types.specs.Plain.{PlainStep}, tracehost_c.specs.declared.replies.FlatReply.{FlatReply}}
use Rattle.open_sessions.specs.{Answers.{LineReply}, Calls.{OpenSession, Answers}, Laws.{Call, typed, by_line, AnswersCall, AnswersCalls}}
use Rattle.tracehost_c.specs.Calls.{StepOf, answered, full, TypedCall, not_open, no_step, in_session, LineCall, line_not_open, line_no_memory, line_full, line_answered}
use Rattle.tracehost_c.specs.Laws.{HandleCall, typed_call, line_call, Made, AllMade, answered_call, answered_calls}

-- what a call on an open handle does: nothing, or one call of its session
pub data Outcome (c : HandleCall) (code : ℕ) (s : OpenSession) (mid : Option OpenSession) : Type 0 where
  nothing : answered_call c code ≡ None → mid ≡ Some s → Outcome c code s mid
  one : (call : Call) (r : LineReply) (t : OpenSession) → answered_call c code ≡ Some call → mid ≡ Some t → AnswersCall call s r t → Outcome c code s mid

step_outcome : (user : ℕ) (step : Option PlainStep) (made : PlainStep) (s t : OpenSession) (mid : Option OpenSession) (before after : FlatReply) (code : ℕ)
    → step ≡ Some made → mid ≡ Some t → StepOf user made s t before after code → Outcome (typed_call user step) code s mid
step_outcome user step made s t mid before after code is now (answered zero room steps flat) =
    one (typed (record { uid = user; step = made })) (Ok (record { uid = user; reply = steps.reply })) t (rw (is, zero) refl) now (steps, refl)
step_outcome user step made s t mid before after code is now (full five is_full kept still) = nothing (rw five refl) (cc (now, kept))

typed_outcome : (user : ℕ) (step : Option PlainStep) (s : OpenSession) (mid : Option OpenSession) (before after : FlatReply) (code : ℕ)
    → TypedCall user step (Some s) mid before after code → Outcome (typed_call user step) code s mid
typed_outcome user step s mid before after code (not_open is was new still) = cc was
typed_outcome user step s mid before after code (no_step is some unknown new still) = nothing (rw is refl) new
typed_outcome user step s mid before after code (in_session p t made user_is is was now steps) =
    let same : p ≡ s = cc was in
    step_outcome user step made s t mid before after code is now (rw same at steps)

line_made : (text : List ℕ) (code : ℕ) → (code ≡ 0) ⊎ (code ≡ 4) → answered_call (line_call text) code ≡ Some (by_line text)
line_made text code (inl is) = rw is refl
line_made text code (inr is) = rw is refl

line_outcome : (text : List ℕ) (s : OpenSession) (mid : Option OpenSession) (code : ℕ) → LineCall text (Some s) mid code → Outcome (line_call text) code s mid
line_outcome text s mid code (line_not_open is was new) = cc was
line_outcome text s mid code (line_no_memory is some new) = nothing (rw is refl) new
line_outcome text s mid code (line_full p is was is_full new) = nothing (rw is refl) new
line_outcome text s mid code (line_answered p t is was now room answers) =
    let same : p ≡ s = cc was in
    let made : Answers text s t = rw same at answers in
    one (by_line text) made.reply t (line_made text code is) now (made, refl)

pub outcome : (c : HandleCall) (s : OpenSession) (mid : Option OpenSession) (code : ℕ) → Made c (Some s) mid code → Outcome c code s mid
outcome (typed_call user step) s mid code made = typed_outcome user step s mid made.0 made.1 code made.2
outcome (line_call text) s mid code made = line_outcome text s mid code made

-- calls on an open handle, as calls of its session
pub record Composed (calls : List HandleCall) (codes : List ℕ) (s : OpenSession) (new : Option OpenSession) : Type 0 where
  pub session : OpenSession
  pub answers : List LineReply
  pub open_still : new ≡ Some session
  pub answered : AnswersCalls (answered_calls calls codes) s answers session

composed_none : (s : OpenSession) (new : Option OpenSession) → new ≡ Some s → Composed [] [] s new
composed_none s new is = record { session = s; answers = []; open_still = is; answered = refl }

-- one call, and then others
module _ (c : HandleCall) (calls : List HandleCall) (code : ℕ) (codes : List ℕ) (s : OpenSession) (mid new : Option OpenSession) where
  composed_more : Outcome c code s mid → ((t : OpenSession) → mid ≡ Some t → Composed calls codes t new) → Composed (c ∷ calls) (code ∷ codes) s new
  composed_more (nothing none same) rest =
      let more = rest s same in
      record { session = more.session; answers = more.answers; open_still = more.open_still; answered = rw none more.answered }
  composed_more (one call r t is now answers) rest =
      let more = rest t now in
      record { session = more.session; answers = r ∷ more.answers; open_still = more.open_still; answered = rw is (t, answers, more.answered) }

pub composed : (calls : List HandleCall) (codes : List ℕ) (s : OpenSession) (new : Option OpenSession) → AllMade calls (Some s) codes new → Composed calls codes s new
composed [] [] s new made = composed_none s new made
composed (c ∷ calls) (code ∷ codes) s new made =
    composed_more c calls code codes s made.0 new (outcome c s made.0 code made.1) (λ t now. composed calls codes t new (rw now at made.2))
composed calls codes s new made = absurd made
