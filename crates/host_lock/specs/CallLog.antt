-- The answered calls that only contracts see.
use Rattle.std.specs.{Prelude.{List, [], Option, Some, None}, declared.snapshot.Snapshot.Snapshot}
use Rattle.host_lock.specs.declared.journal.Entry.{Entry}

abbrev pub known_in : Option (Snapshot (List Entry)) → List Entry
known_in None = []
known_in (Some calls) = calls.value
