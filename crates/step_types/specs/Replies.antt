-- Kinds of replies.
use Rattle.std.specs.Prelude.{Bool, true, false}
use Rattle.pid_blocks.specs.declared.Errno.{Errno}
use Rattle.step_types.specs.declared.Reply.{Reply}

-- whether an answer means out of memory
abbrev pub is_memory : Reply → Bool
is_memory (Reply.Errno Errno.ENOMEM) = true
is_memory r = false

abbrev pub is_refusal : Reply → Bool
is_refusal Reply.Held = true
is_refusal (Reply.Errno e) = true
is_refusal r = false

-- whether an answer is a list of numbers
abbrev pub is_listing : Reply → Bool
is_listing (Reply.Lwps tids) = true
is_listing (Reply.Pids pids) = true
is_listing r = false
