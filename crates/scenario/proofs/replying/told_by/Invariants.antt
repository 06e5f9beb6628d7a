use Rattle.std.proofs.Common.{◌≡◌, ◌++◌, map}
use Rattle.scenario.proofs.CommonNames.{into_iter_items, AllByRecursion, answered, told_to, AreMade}
use Rattle.scenario.proofs.replying.told_by.Given as goal

-- the transcripts so far and those that are left
abbrev pub invariant-loop-transcript : goal.invariant-loop-transcript
invariant-loop-transcript l = record {
  users : map (λ told. told.0) l.all.items ++ map (λ t. t.uid) (into_iter_items l.transcript-iterator) ≡ map (λ t. t.uid) l.fn.transcripts.items;
  replies : map (λ told. map answered told.1.items) l.all.items ++ map (λ t. told_to t.uid t.replies.items) (into_iter_items l.transcript-iterator) ≡ map (λ t. told_to t.uid t.replies.items) l.fn.transcripts.items;
  made : AllByRecursion (λ t. AreMade t.replies.items) (into_iter_items l.transcript-iterator) → AllByRecursion (λ t. AreMade t.replies.items) l.fn.transcripts.items;
}
