-- The words of the crates below, and of this crate's types, that the definitions use.
pub use Rattle.std.specs.Int.RustNames.{bit_or}
pub use Rattle.std.specs.List.{AllByRecursion, flat_map, join_with_byte, list_all, list_any}
pub use Rattle.std.specs.Prelude.{Bool, Err, IfOk, IsSomeAnd, List, None, Ok, OnErr, Option, Result, Some, [], codes, count_by, decimal, false, filter, find, get_or, if◌then◌else◌, int_lt, is_none}
pub use Rattle.std.specs.Prelude.{is_some, leb, length, ltb, map, negsuc, not, option_and_then, option_map, pos, set, true, zip, ℕ, ℤ, ◌&&◌, ◌*◌, ◌++◌, ◌+◌, ◌==◌, ◌||◌, ◌∷◌, ◌≡◌, ◌≢◌, ◌≤◌, ◌⊎◌}
pub use Rattle.pid_blocks.specs.Blocks.{InBlock, errno_name, errno_number, first_free, next_free, pid_block, pid_owner, rising, slot, tid_block, tid_owner, users}
pub use Rattle.pid_blocks.specs.Users.{IsUser}
pub use Rattle.pid_blocks.specs.declared.Errno.{Errno}
pub use Rattle.pid_blocks.specs.declared.Errno.TheVariants.{EAGAIN, EBUSY, ECHILD, EINVAL, ENOMEM, EPERM, ESRCH}
pub use Rattle.signals.specs.Sets.{bit, has, lowest, set_of, set_text, without}
pub use Rattle.signals.specs.Table.{SIGCHLD, SIGKILL, SIGSTOP, SIGTRAP, after_exec, default_action, disposition_of, is_signal, maskable, may_have, set_disposition, unblockable_set}
pub use Rattle.signals.specs.declared.Action.{Action}
pub use Rattle.signals.specs.declared.Disposition.{Disposition}
pub use Rattle.event_masks.specs.Exits.{all_events, asks, both, call_code, default_mask, entry_flags, exit_flags, mask_with, mask_without, no_events, no_flags, shows, stop_where}
pub use Rattle.event_masks.specs.Names.{event_table, flag_text, stop_table}
pub use Rattle.event_masks.specs.declared.Call.{Call}
pub use Rattle.event_masks.specs.declared.EventMask.{EventMask}
pub use Rattle.event_masks.specs.declared.StopFlags.{StopFlags}
pub use Rattle.event_masks.specs.declared.TheConstants.EventMask.{PTRACE_FORK, PTRACE_LWP, PTRACE_SCE, PTRACE_SCX}
pub use Rattle.event_masks.specs.declared.TheConstants.StopFlags.{PL_FLAG_BORN, PL_FLAG_CHILD, PL_FLAG_EXITED, PL_FLAG_FORKED, PL_FLAG_SCE, PL_FLAG_SCX, PL_FLAG_VFORK_DONE}
pub use Rattle.lwp_table.specs.Lwps.{Differ, LacksLwp, born, first_lwp, has_lwp, lwp_of, next_lwp, without_lwp}
pub use Rattle.lwp_table.specs.declared.Due.{Due}
pub use Rattle.lwp_table.specs.declared.LwpData.{LwpData}
pub use Rattle.lwp_table.specs.declared.Mode.{Mode}
pub use Rattle.lwp_table.specs.declared.Mode.TheVariants.{InCall, User, VforkWait}
pub use Rattle.proc_table.specs.Edits.{map_lwps}
pub use Rattle.proc_table.specs.Fresh.{add_lwp, add_process, fresh_pid, fresh_tid, is_lwp, is_process, lwp_count, lwp_count_of, no_rows, process_count}
pub use Rattle.proc_table.specs.Kept.{AllAbove, InOwnBlock, InOwnersBlock, IsRow, Named, Rise, Table, TableInvariant, drop_lwp, set_lwp, set_process}
pub use Rattle.proc_table.specs.Processes.{is_live, is_run, is_zombie_state, named_by, of_user, placed, process_of, reported_stop, reporting, spawned, traces}
pub use Rattle.proc_table.specs.Rows.{Rows, by_owner, change, change_lwp, change_process, each, is_numbered, owner, remove_lwp}
pub use Rattle.proc_table.specs.Seen.{find_seen, owns, seen_lwp, visible_process}
pub use Rattle.proc_table.specs.declared.ProcData.{ProcData}
pub use Rattle.proc_table.specs.declared.State.{State}
pub use Rattle.proc_table.specs.declared.State.TheVariants.{Job, Run, Trace}
pub use Rattle.trace_rows.specs.End.{end, end_each, left_alone, lwp_after, meets, notifies_of, process_after, released, tracer_of}
pub use Rattle.trace_rows.specs.Post.{continues, notified, notifies, posted, posted_lwp, posted_process, settle, settled_lwp, settled_process, unwanted}
pub use Rattle.trace_rows.specs.Sound.{is_due, is_end, is_live_at, is_live_of, mode_fits, names_own, sound_rows, status_fits}
pub use Rattle.trace_rows.specs.Stop.{detach, post, resume, stop, tracers}
pub use Rattle.step_types.specs.{Plain.UserStep, Plain.caller_of, Plain.installs, Replies.is_listing, Replies.is_memory, Replies.is_refusal, Status.no_options}
pub use Rattle.step_types.specs.{Events.event_name, Plain.PlainStep, Plain.bare, Plain.with_handler, Status.word, declared.Act.Act, declared.LwpInfo.LwpInfo}
pub use Rattle.step_types.specs.{declared.Options.Options, declared.Reply.Reply, declared.Request.Request, declared.Settings.Settings, declared.StatusKind.StatusKind}
pub use Rattle.step_types.specs.{declared.step.Step.Step}
pub use Rattle.trace_rows.specs.{Detach.signal_alone, declared.Resumption.Resumption, declared.StopInfo.StopInfo, declared.Stepping.Stepping}
pub use Rattle.trace_rows.specs.Closed.{Closed, GoodLwp, GoodProc, LiveOwner, LiveRow}
pub use Rattle.lwpinfo.specs.Info.{info, lwp_info, lwp_list}
pub use Rattle.wait4.specs.Collect.{answer, candidates, collect, fits, is_child, reportable, reported, rows_after, told, without_report}
pub use Rattle.wait4.specs.declared.Collected.{Collected}
pub use Rattle.stop_handlers.specs.Decide.{decide}
pub use Rattle.stop_handlers.specs.declared.Decision.{Decision}
pub use Rattle.stop_handlers.specs.declared.Rule.{Rule}
pub use Rattle.stop_handlers.specs.declared.StopView.{StopView}
pub use Rattle.requests.specs.declared.handlers.Decided.{Decided}
