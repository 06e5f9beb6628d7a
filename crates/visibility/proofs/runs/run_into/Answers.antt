use Rattle.visibility.proofs.CommonNames.{◌≡◌, ℕ, [], ◌∷◌, map, length, arith, ap, ◌∙◌, append_assoc, into_iter_items, PlainStep, asked, reply_given}
use Rattle.visibility.proofs.Answered.{did_push, map-push, Users-push}
use Rattle.visibility.proofs.Steps.{did}
use Rattle.visibility.proofs.runs.run_into.Goals as goal

pub loop-user-preserved : goal.loop-user-preserved
loop-user-preserved g c =
    let at = c.loop-user in
    let entry : ℕ × PlainStep = (c.in-Some.user, c.in-Some.step) in
    let steps : into_iter_items at.user-iterator ≡ entry ∷ into_iter_items c.next.new.self = c.in-Some.ensures.steps.0 in
    let pushed = did_push (map asked at.yielded) (map reply_given at.replies.items) (asked entry) (reply_given c.step-reply.result) c.args.host.now at.host c.step-reply.new.self at.invariant.ran at.invariant.wanting (did c.step-reply.ensures) in
    let was = at.invariant.left in
    let gone = c.in-Some.ensures.steps.1 in
    let short = ap length steps in
    record {
      split = append_assoc at.yielded (entry ∷ []) _ ∙ rw (← steps) at.invariant.split;
      left = omega arith;
      users = rw (map-push asked at.yielded entry) (Users-push (map asked at.yielded) (asked entry) at.invariant.users c.get-number.ensures.user);
      ran = rw (map-push asked at.yielded entry, c.push_reserved.ensures.items, map-push reply_given at.replies.items c.step-reply.result) pushed.0;
      wanting = rw (map-push asked at.yielded entry, c.push_reserved.ensures.items, map-push reply_given at.replies.items c.step-reply.result) pushed.1;
      room = let kept = c.push_reserved.ensures.capacity in let longer = c.push_reserved.ensures.len in let room = at.invariant.room in omega arith;
    }
