use Rattle.std.proofs.Common.{◌≡◌, ◌≢◌, ◌∙◌, Some, false, true≢false, ap, sym}
use Rattle.std.proofs.lemmas.Option.{same_Some}
use Rattle.requests.specs.CommonNames.{ENOMEM}
use Rattle.requests.specs.Isolation.{host_after, reply_of}
use Rattle.step_types.specs.declared.Reply.{Reply}
use Rattle.step_types.specs.Replies.{is_memory}
use Rattle.open_sessions.specs.{Answers.last_reply, Calls.Steps}
use Rattle.json_trace.proofs.WriteLemmas.{succeeded}
use Rattle.json_trace.proofs.states.make.Goals.{Else-is_memory}
use Rattle.json_trace.proofs.states.make.Goals as goal

-- the machine made the step
made : (c : Else-is_memory) → (c.step.new.self.host ≡ host_after c.args.user c.args.step.now c.args.session.now.host) × (last_reply c.step.new.self.last ≡ Some (reply_of c.args.user c.args.step.now c.args.session.now.host))
made c =
    let steps : Steps c.args.user c.args.step.now c.args.session.now c.step.new.self = succeeded _ c.step.result (sym c.is_err.ensures.value ∙ c.if-is_err.false) c.step.ensures.stepped in
    let last : last_reply c.step.new.self.last ≡ Some steps.reply = ap last_reply steps.last in
    let same : c.in-Some.reply.now ≡ steps.reply = same_Some c.in-Some.reply.now steps.reply (c.in-Some.ensures ∙ last) in
    let given : steps.reply ≢ Reply.Errno ENOMEM = λ is. true≢false (sym (ap is_memory (same ∙ is)) ∙ sym c.if-is_memory.ensures) in
    let machine = steps.made.machine given in
    (machine.0, last ∙ ap (λ r. Some r) machine.1)

pub returns-clause-host : goal.returns-clause-host
returns-clause-host c = (made c).0

pub returns-clause-reply : goal.returns-clause-reply
returns-clause-reply c = (made c).1
