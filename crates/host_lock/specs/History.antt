-- The state in the slot as plain data: the host at opening, and the journal. The present host is its replay.
use Rattle.std.specs.Prelude.{List}
use Rattle.{requests.specs.Machine.Machine, host_lock.specs.declared.journal.Entry.Entry}

pub record History : Type 0 where
  pub start : Machine
  pub log : List Entry

abbrev pub history : Machine → List Entry → History
history h log = record { start = h; log = log }
