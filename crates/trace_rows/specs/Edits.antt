-- Changes of all LWPs of one process.
use Rattle.std.specs.Int.RustNames.{bit_or}
use Rattle.lwp_table.specs.Marks.{no_traits}
use Rattle.lwp_table.specs.declared.marks.Traits.{Traits}
use Rattle.trace_rows.specs.CommonNames.{ℕ, true, false, Option, Some, None, opposed, Stepping, without, LwpData, Nothing, is_this, Edit, Post, Step, Detach}
use Rattle.trace_rows.specs.Detach.{steps}
use Rattle.trace_rows.specs.Post.{signal_put}

-- an LWP after the signals of a set have left its pending set
abbrev pub settled : ℕ → LwpData → LwpData
settled lost l = record l { pending = without l.pending lost }

-- an LWP after a change
abbrev pub edited : Edit → LwpData → LwpData
edited (Post s to lost) l = record l { pending = without (signal_put s (is_this l.tid to) l.pending) lost }
edited (Step stepping) l = steps stepping l
edited (Detach lost unwanted) l = record l { stepping = false; suspended = false; due = Nothing; pending = without (without l.pending lost) unwanted }

-- the LWP for which a change is another one than for the other LWPs
abbrev pub only : Edit → Option ℕ
only (Post s to lost) = to
only (Step Stepping.Unchanged) = None
only (Step Stepping.Nobody) = None
only (Step (Stepping.Only tid)) = Some tid
only (Detach lost unwanted) = None

-- the change of those
abbrev pub of_others : Edit → Edit
of_others (Post s to lost) = Post s None lost
of_others (Step Stepping.Unchanged) = Step Stepping.Unchanged
of_others (Step Stepping.Nobody) = Step Stepping.Nobody
of_others (Step (Stepping.Only tid)) = Step Stepping.Nobody
of_others (Detach lost unwanted) = Detach lost unwanted

-- the traits that a change takes from LWPs
abbrev pub touched : Edit → Traits
touched (Post s to lost) = record no_traits { pending = bit_or (opposed s) lost }
touched (Step stepping) = record no_traits { steps = true }
touched (Detach lost unwanted) = record { pending = bit_or lost unwanted; steps = true; held = true }
