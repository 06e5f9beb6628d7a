-- The answers of a session, from its steps.
use Rattle.std.{proofs.{Common.{arith, ◌≡◌, ◌≢◌, ◌<◌, ℕ, ◌-◌, ◌+◌, List, Option, Some, None, refl, ap, ◌∙◌, length, slice_set, slice_index}, lemmas.List.get_or-set_same}, specs.Prelude.{Result, Ok}}
use Rattle.{std.specs.Prelude.{Err, OnOk}, pid_blocks.specs.Users.IsUser, requests.specs.{Hosts.Steps as HostSteps, Machine.Machine}}
use Rattle.step_types.specs.{Plain.UserStep, Plain.PlainStep, declared.Reply.Reply}
use Rattle.{visibility.proofs.Steps.did, scenario_text.specs.{declared.fault.Fault.{Fault, TheVariants.Memory}, OneStep.{IsStep, AnswersBy}}, scenario_runs.specs.declared.style.Style.Style}
use Rattle.{scenario_runs.specs.Lines.{Answered, line}, open_sessions.specs.{Answers.{LineReply, step, refused, answer_text}, Calls.{OpenSession, Steps, Answers, LineOf}, StepLines.{HasLine, line_of}}}
use Rattle.open_sessions.proofs.LineLaw.{line_is_step}

-- a step of the host, with the count at the user's place raised and the reply kept
pub steps : (u : ℕ) (p : PlainStep) (s : OpenSession) (k : Machine) (r : Reply) (place : ℕ) → IsUser u → HostSteps u p s.host k r → place ≡ u - 1001 → place < length s.made
    → Steps u p s (record { host = k; made = slice_set s.made place (slice_index s.made place + 1); last = Some (Ok (record { uid = u; reply = r })); asked = Some (record { uid = u; step = p }) })
steps u p s k r place user made at below = record {
  reply = r;
  user = user;
  made = made;
  counts = ap (λ i. slice_set s.made i (slice_index s.made i + 1)) at;
  number = grind (arith, at, get_or-set_same s.made place (slice_index s.made place + 1) 0 below);
  last = refl;
  asked = refl;
}

text_with : (style : Style) (made : List ℕ) (a : Answered) (last : Option LineReply) (n : ℕ) → last ≡ Some (Ok a) → slice_index made (a.uid - 1001) ≡ n → answer_text style made last ≡ (line style n a).text
text_with style made a last n is number = ap (answer_text style made) is ∙ ap (λ x. (line style x a).text) number

-- a line that is a step was answered by its reply
pub answers : (text : List ℕ) (a : UserStep) (s t : OpenSession) → IsStep text (Ok a) → Steps a.uid a.step s t → Answers text s t
answers text a s t is made =
    let reply : Answered = record { uid = a.uid; reply = made.reply } in
    record {
      reply = Ok reply;
      answers = step a made.reply t.host is made.user (did made.made);
      counts = made.counts;
      last = made.last;
      asked = rw made.asked is;
      text = λ style. text_with style t.made reply t.last (slice_index s.made (a.uid - 1001) + 1) made.last made.number;
    }

-- a fault other than out of memory
pub told_fault : {X : Type 0} (view : X → UserStep) (P : Result UserStep Fault → Type 0) (f : Fault) → f ≢ Memory → AnswersBy view (Err f) P → P (Err f)
told_fault view P Memory some p = absurd (some refl)
told_fault view P f some p = p

-- a line that is no step was refused
pub refuses : (text : List ℕ) (s t : OpenSession) (f : Fault) → IsStep text (Err f) → t ≡ record s { last = Some (Err f); asked = None } → Answers text s t
refuses text s t f is same = rw same (record { reply = Err f; answers = refused f is; counts = refl; last = refl; asked = (f, is); text = λ style. refl })

pub on_ok_so : {X E : Type 0} (r : Result X E) (P Q : Type 0) → (P → Q) → OnOk r P → OnOk r Q
on_ok_so (Ok x) P Q f p = f p
on_ok_so (Err e) P Q f p = tt

-- a line that was written for a step with names
pub shown_line : (a : UserStep) (line : List ℕ) → IsUser a.uid → HasLine a.step → line ≡ line_of a → LineOf (Some a) line
shown_line a line user has is = (is, rw is (line_is_step a user has))
