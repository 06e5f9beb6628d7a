-- Why an LWP is stopped.
use Rattle.std.specs.Prelude.{ℕ, List, codes}
use Rattle.step_types.specs.{declared.Event.Event, declared.Event.TheVariants.Nothing, declared.Event.TheVariants.Signal}

abbrev pub event_name : Event → List ℕ
event_name Nothing = codes "NONE"
event_name Signal = codes "SIGNAL"
