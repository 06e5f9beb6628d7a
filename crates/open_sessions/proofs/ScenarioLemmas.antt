-- Sessions compared with scenarios.
use Rattle.std.{proofs.Common.{◌≡◌, ℕ, ◌+◌, ◌==◌, count_by, List, [], ◌∷◌, ◌++◌, map, Some, None, refl, ap, subst, arith}, specs.Prelude.{Ok, Err}}
use Rattle.open_sessions.proofs.LineLemmas.{one_result}
use Rattle.{std.specs.{Prelude.if◌then◌else◌, List.AllByRecursion}, requests.specs.{Isolation.{host_after, reply_of}, Machine.{Machine}}}
use Rattle.step_types.specs.{Plain.UserStep}
use Rattle.{requests.specs.Run.{replies}, visibility.{specs.Runs.{MakesStep}}}
use Rattle.{scenario_text.specs.{OneStep.{IsStep}}, scenario_runs.specs.declared.style.Style.Style}
use Rattle.{scenario_runs.specs.{Lines.{Answered, line, lines_after, text_of}, Runs.paired}, open_sessions.specs.Answers.{LineReply, AnswersLine, step, refused}, open_sessions.specs.Sessions.AnswersLines}
use Rattle.{open_sessions.specs.{Sessions.text_after, LineLaws.{AreSteps, IsMade}}, open_sessions.{specs.Laws.by_line, proofs.LawLemmas.{Found, found_none, found_line}}}

-- the answer to a line that is a step, if memory was left
record Made (a : UserStep) (m : Machine) (r : LineReply) (k : Machine) : Type 0 where
  reply : r ≡ Ok (record { uid = a.uid; reply = reply_of a.uid a.step m })
  host : k ≡ host_after a.uid a.step m

made : (text : List ℕ) (a : UserStep) (m : Machine) (r : LineReply) (k : Machine) → IsStep text (Ok a) → AnswersLine text m r k → IsMade r → Made a m r k
made text a m r k is (step b reply after was user did) left =
    let same : b ≡ a = cc (one_result text (Ok b) (Ok a) was is) in
    let both : MakesStep (Some reply) b.uid b.step m after = subst (λ x. MakesStep (if x then None else Some reply) b.uid b.step m after) left did in
    record { reply = rw (← same) (ap (λ x. Ok (record { uid = b.uid; reply = x })) both.0); host = rw (← same) both.1 }
made text a m r k is (refused f was) left = cc (one_result text (Ok a) (Err f) is was)

pub lines_of_scenario : (style : Style) (before : List ℕ) (lines : List (List ℕ)) (steps : List UserStep) (m : Machine) (rs : List LineReply) (k : Machine)
    → AreSteps lines steps → AnswersLines lines m rs k → AllByRecursion IsMade rs
    → text_after style before rs ≡ text_of (lines_after style before (paired steps (replies steps m)))
lines_of_scenario style before [] [] m [] k are answers left = refl
lines_of_scenario style before (l ∷ lines) (a ∷ steps) m (r ∷ rs) k are answers left =
    let one = made l a m r answers.0 are.0 answers.1 left.0 in
    let rest = lines_of_scenario style (a.uid ∷ before) lines steps (host_after a.uid a.step m) rs k are.1 (rw one.host at answers.2) left.1 in
    let now : Answered = record { uid = a.uid; reply = reply_of a.uid a.step m } in
    rw one.reply (ap (λ t. (line style (count_by (λ u. u == a.uid) before + 1) now).text ++ t) rest)
lines_of_scenario style before lines steps m rs k are answers left = grind arith

-- the steps of a session, as a run
pub found : (lines : List (List ℕ)) (m : Machine) (rs : List LineReply) (k : Machine) → AnswersLines lines m rs k → Found (map by_line lines) m rs k
found [] m [] k answers = found_none m k answers
found (l ∷ lines) m (r ∷ rs) k answers = found_line l (map by_line lines) m answers.0 k r rs answers.1 (found lines answers.0 rs k answers.2)
found lines m rs k answers = absurd answers
