-- How masks and flags are read: from bits, and by name.
use Rattle.std.specs.Prelude.{ℕ, ◌==◌, nat_eq, List, Option, Some, None, option_map, codes, if◌then◌else◌}
use Rattle.std.specs.Int.RustNames.{bit_or}
use Rattle.std.specs.Cmp.Lexicographic.{pointwise}
use Rattle.bitflags.specs.Sets.{find_name}
use Rattle.event_masks.specs.declared.EventMask.{EventMask}
use Rattle.event_masks.specs.declared.StopFlags.{StopFlags}
use Rattle.event_masks.specs.declared.TheConstants.EventMask.{PTRACE_SCE, PTRACE_SCX}
use Rattle.event_masks.specs.Exits.{all_events, mask_with}
use Rattle.event_masks.specs.Names.{event_table, stop_table}

abbrev pub mask : ℕ → EventMask
mask bits = record { 0 = bits }

-- the mask with these bits, if each is an event's
abbrev pub mask_of_bits : ℕ → Option EventMask
mask_of_bits bits = if bit_or bits all_events == all_events then Some (mask bits) else None

-- the events with the name; PTRACE_SYSCALL means both events of a system call
abbrev pub events_named : List ℕ → Option EventMask
events_named name =
    if pointwise nat_eq name (codes "PTRACE_SYSCALL")
    then Some (mask_with PTRACE_SCE PTRACE_SCX)
    else option_map (λ bits. mask bits) (find_name event_table name)

-- the stop flag with the name
abbrev pub flag_named : List ℕ → Option StopFlags
flag_named name = option_map (λ bits. record { 0 = bits }) (find_name stop_table name)
