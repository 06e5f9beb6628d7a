use Rattle.std.proofs.Common.{◌≡◌, ◌++◌, map}
use Rattle.scenario.proofs.CommonNames.{into_iter_items, answered, told_to, AreMade}
use Rattle.scenario.proofs.replying.replies_in.Given as goal

-- the replies so far and those that are left
abbrev pub invariant-loop-reply : goal.invariant-loop-reply
invariant-loop-reply l = record {
  told : map answered l.replies.items ++ told_to l.user (into_iter_items l.reply-iterator) ≡ told_to l.fn.transcript.uid l.fn.transcript.replies.items;
  made : AreMade (into_iter_items l.reply-iterator) → AreMade l.fn.transcript.replies.items;
}
