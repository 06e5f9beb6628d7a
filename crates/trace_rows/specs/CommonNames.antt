-- The words of other crates, and the types of this one, that these definitions use, from one place.
pub use Rattle.event_masks.specs.Exits.{asks, mask_with, no_flags, shows}
pub use Rattle.event_masks.specs.declared.{Call.Call, EventMask.EventMask}
pub use Rattle.event_masks.specs.declared.TheConstants.EventMask.{PTRACE_VFORK}
pub use Rattle.event_masks.specs.declared.TheConstants.StopFlags.{PL_FLAG_EXITED}
pub use Rattle.lwp_table.specs.Lwps.{lwp_of}
pub use Rattle.lwp_table.specs.declared.Due.{Due}
pub use Rattle.lwp_table.specs.declared.Due.TheVariants.{Nothing, VforkDone}
pub use Rattle.lwp_table.specs.declared.Mode.{Mode}
pub use Rattle.lwp_table.specs.declared.Mode.TheVariants.{InCall, User, VforkWait}
pub use Rattle.pid_blocks.specs.Blocks.{in_block, pid_owner, tid_owner}
pub use Rattle.proc_table.specs.CommonNames.{AllByRecursion, Bool, Differ, IfSome, InBlock, IsSomeAnd, IsUser, List, LwpData, None, Option, Some, [], count_by, false, filter, filter_map, find, get_or}
pub use Rattle.std.specs.Prelude.{if◌then◌else◌}
pub use Rattle.proc_table.specs.CommonNames.{is_none, is_some, leb, length, list_any, ltb, map, no_events, not, option_and_then, option_map, option_map_or, pid_block, slot, tid_block}
pub use Rattle.std.specs.Prelude.{◌&&◌, ◌<◌, ◌==◌, ◌∷◌, ◌≡◌, ◌≢◌, ◌≤◌}
pub use Rattle.proc_table.specs.CommonNames.{true, users, ℕ}
pub use Rattle.proc_table.specs.Edits.{map_lwps}
pub use Rattle.proc_table.specs.Fresh.{is_process, lwp_count, lwp_count_of, process_count}
pub use Rattle.proc_table.specs.Keep.{keep}
pub use Rattle.proc_table.specs.Kept.{InOwnBlock, InOwnersBlock, Rise, drop_lwp, set_lwp}
pub use Rattle.proc_table.specs.Laws.{LeastOrNone, only_of}
pub use Rattle.proc_table.specs.Processes.{is_job, is_live, is_run, is_this, process_of, reporting, traces}
pub use Rattle.proc_table.specs.Rows.{Rows, by_owner, change, change_lwp, change_process, each, edit_lwps, is_numbered, owner}
pub use Rattle.proc_table.specs.Seen.{owns}
pub use Rattle.proc_table.specs.declared.ProcData.{ProcData}
pub use Rattle.proc_table.specs.declared.State.{State}
pub use Rattle.proc_table.specs.declared.State.TheVariants.{Job, Run, Trace, Zombie}
pub use Rattle.signals.specs.Sets.{bit, with, without}
pub use Rattle.signals.specs.Table.{SIGCHLD, SIGCONT, SIGKILL, SIGTRAP, ends, nothing, opposed, unblockable_set}
pub use Rattle.std.specs.Int.RustNames.{bit_and}
pub use Rattle.std.specs.List.{list_all}
pub use Rattle.std.specs.Prelude.{negsuc, option_to_list, pos, suc, unwrap_or, zero, zip, ℤ, ◌%◌, ◌||◌}
pub use Rattle.step_types.specs.declared.Settings.{Settings}
pub use Rattle.trace_rows.specs.declared.{Resumption.Resumption, Stepping.Stepping, StopInfo.StopInfo}
pub use Rattle.trace_rows.specs.declared.edits.Edit.{Edit}
pub use Rattle.trace_rows.specs.declared.edits.Edit.TheVariants.{Detach, Post, Step}
