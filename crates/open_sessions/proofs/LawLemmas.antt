-- The calls of a session, as a run of the machine.
use Rattle.std.proofs.Common.{◌≡◌, ℕ, List, [], ◌∷◌, map, Option, Some, None, refl}
use Rattle.std.specs.Prelude.{Ok}
use Rattle.requests.specs.{Isolation.{Ran, Users}, Machine.Machine}
use Rattle.step_types.specs.{Plain.UserStep, declared.Reply.Reply}
use Rattle.visibility.{specs.Runs.{reply_given, MakesStep}, proofs.Steps.did}
use Rattle.open_sessions.specs.{Answers.{LineReply, AnswersLine, step, refused}, Calls.{OpenSession, Steps}}
use Rattle.open_sessions.specs.Laws.{Call, typed, by_line, AnswersCalls, StepsIn, none, typed_step, line_step, no_step, replies_in}

-- one more step
ran_more : (a : UserStep) (steps : List UserStep) (o : Option Reply) (os : List (Option Reply)) (m n k : Machine) → MakesStep o a.uid a.step m n → Ran steps os n k → Ran (a ∷ steps) (o ∷ os) m k
ran_more a steps None os m n k did ran = rw did.0 at ran
ran_more a steps (Some r) os m n k did ran = (did.0, rw did.1 at ran)

-- the steps of calls, as a run
pub record Found (calls : List Call) (m : Machine) (rs : List LineReply) (k : Machine) : Type 0 where
  pub steps : List UserStep
  pub are : StepsIn calls steps
  pub users : Users steps
  pub ran : Ran steps (map (λ r. reply_given r) (replies_in rs)) m k

pub found_none : (m k : Machine) → k ≡ m → Found [] m [] k
found_none m k same = record { steps = []; are = none; users = tt; ran = same }

-- a line before them
pub found_line : (text : List ℕ) (calls : List Call) (m n k : Machine) (r : LineReply) (rs : List LineReply) → AnswersLine text m r n → Found calls n rs k → Found (by_line text ∷ calls) m (r ∷ rs) k
found_line text calls m n k r rs (step a reply after is user makes) rest = record {
  steps = a ∷ rest.steps;
  are = line_step text a calls rest.steps is rest.are;
  users = (user, rest.users);
  ran = ran_more a rest.steps (reply_given reply) (map (λ r. reply_given r) (replies_in rs)) m after k makes rest.ran;
}
found_line text calls m n k r rs (refused f is) rest = record { steps = rest.steps; are = no_step text f calls rest.steps is rest.are; users = rest.users; ran = rest.ran }

-- a typed call before them
found_typed : (a : UserStep) (calls : List Call) (s n : OpenSession) (k : Machine) (rs : List LineReply) (made : Steps a.uid a.step s n) → Found calls n.host rs k
    → Found (typed a ∷ calls) s.host (Ok (record { uid = a.uid; reply = made.reply }) ∷ rs) k
found_typed a calls s n k rs made rest = record {
  steps = a ∷ rest.steps;
  are = typed_step a calls rest.steps rest.are;
  users = (made.user, rest.users);
  ran = ran_more a rest.steps (reply_given made.reply) (map (λ r. reply_given r) (replies_in rs)) s.host n.host k (did made.made) rest.ran;
}

pub found : (calls : List Call) (s t : OpenSession) (rs : List LineReply) → AnswersCalls calls s rs t → Found calls s.host rs t.host
found [] s t [] answers = rw answers (found_none s.host s.host refl)
found (typed a ∷ calls) s t (r ∷ rs) answers =
    let n = answers.0 in
    let one = answers.1 in
    rw one.1 (found_typed a calls s n t.host rs one.0 (found calls n t rs answers.2))
found (by_line text ∷ calls) s t (r ∷ rs) answers =
    let n = answers.0 in
    let one = answers.1 in
    rw one.1 (found_line text calls s.host n.host t.host one.0.reply rs one.0.answers (found calls n t rs answers.2))
found calls s t rs answers = absurd answers
