use Rattle.std.proofs.Common.{◌≡◌, ◌≢◌, ℕ, Option, Some, None, ap, sym, ◌∙◌}
use Rattle.{pid_blocks.specs.Users.IsUser, step_types.specs.{Plain.PlainStep, declared.Reply.Reply}}
use Rattle.requests.{specs.{Isolation.{Apart}, Machine.Machine, View.view}, proofs.IsolationLaws.{one_step, other_step}}
use Rattle.visibility.{specs.Runs.{MakesStep, reply_given}, proofs.Steps.did}
use Rattle.open_sessions.{specs.{Laws.{AnswersAlike, LeavesStates}, ViewWords.view_words}, proofs.ViewWordLemmas.words_tell}
use Rattle.open_sessions.proofs.laws.same_states_answer_alike.Goals as goal

alike : AnswersAlike
alike u step s k t l first_apart second_apart same first second given also =
    let seen : view u s.host ≡ view u k.host = words_tell (view u s.host) (view u k.host) same in
    let a : MakesStep (Some first.reply) u step s.host t.host = rw given at (did first.made) in
    let b : MakesStep (Some second.reply) u step k.host l.host = rw also at (did second.made) in
    let law = one_step s.host k.host u step first.user first_apart second_apart seen in
    (a.0 ∙ (law.0 ∙ sym b.0), ap view_words (ap (view u) a.1 ∙ (law.1 ∙ sym (ap (view u) b.1))))

left : (u w : ℕ) (step : PlainStep) (m k : Machine) → IsUser u → IsUser w → u ≢ w → Apart m → (o : Option Reply) → MakesStep o w step m k → view u k ≡ view u m
left u w step m k user other ne apart None a = ap (view u) a.0
left u w step m k user other ne apart (Some r) a = ap (view u) a.1 ∙ other_step m u w step user other ne apart

others : LeavesStates
others u w step s t apart user ne made = ap view_words (left u w step s.host t.host user made.user ne apart (reply_given made.reply) (did made.made))

pub returns : goal.returns
returns c = record { alike = alike; others = others }
