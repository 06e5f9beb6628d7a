-- The knowledge of a seat at the table.
use Rattle.std.specs.Prelude.{ℕ, List, [], Option, None}
use Rattle.{requests.specs.Machine.Machine, host_lock.specs.declared.journal.Entry.Entry}

-- the stage of a call; the number is its ticket
pub data Stage : Type 0 where
  -- between two calls
  Idle : Stage
  Waiting : ℕ → Stage
  -- the host is out with this ticket
  Holding : ℕ → Stage
  -- the same, and the call is counted
  Counted : ℕ → Stage

-- the entries of one session
pub record Account : Type 0 where
  pub number : ℕ
  pub mine : List Entry

pub record View : Type 0 where
  -- the host at opening; a seat that was joined into another has none
  pub start : Option Machine
  pub stage : Stage
  -- how many calls it may still make
  pub budget : ℕ
  -- beginnings of the journal; a seat that was joined with others has theirs too
  pub known : List (List Entry)
  -- the sessions that it owns
  pub owns : List Account

-- a seat that was joined into another
abbrev pub spent : View
spent = record { start = None; stage = Idle; budget = 0; known = []; owns = [] }
