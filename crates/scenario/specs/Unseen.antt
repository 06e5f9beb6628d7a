-- Replies that only contracts see.
use Rattle.std.specs.{Prelude.{List, [], Option, Some, None}, declared.snapshot.Snapshot.Snapshot}
use Rattle.step_types.specs.declared.Reply.{Reply}

abbrev pub unseen_in : Option (Snapshot (List Reply)) → List Reply
unseen_in None = []
unseen_in (Some replies) = replies.value
