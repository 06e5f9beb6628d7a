-- The words of rows, and of what is sound, from one place.
pub use Rattle.std.proofs.lemmas.Bool.{cases_Bool, cases_lt, le-leb, leb-false, leb-true, not-false}
pub use Rattle.std.proofs.lemmas.Bool.Decides.{nat_tests}
pub use Rattle.trace_rows.specs.CommonNames.{AllByRecursion, Bool, Differ, IfSome, InBlock, InCall, InOwnBlock, InOwnersBlock, IsSomeAnd, IsUser, List, LwpData, Mode, None, Option, PL_FLAG_EXITED}
pub use Rattle.trace_rows.specs.CommonNames.{ProcData, Resumption, Rise, Rows, Run, SIGCHLD, SIGKILL, SIGTRAP, Settings, StopInfo, Some, State, Trace, User, VforkWait, Zombie, [], asks, bit, bit_and, change}
pub use Rattle.trace_rows.specs.CommonNames.{change_lwp, change_process, drop_lwp, each, ends, false, filter_map, if◌then◌else◌, in_block, is_job, is_live, is_none, is_numbered, is_run, is_some}
pub use Rattle.trace_rows.specs.CommonNames.{is_this, length, list_all, list_any, lwp_count, lwp_count_of, lwp_of, map, map_lwps, no_events, no_flags, not, nothing, option_and_then, option_map, owner}
pub use Rattle.trace_rows.specs.CommonNames.{pid_block, process_count, process_of, reporting, set_lwp, shows, slot, suc, tid_block, traces, true, users, without, zero, ℕ, ◌&&◌, ◌==◌, ◌||◌, ◌∷◌, ◌≡◌}
pub use Rattle.trace_rows.specs.CommonNames.{Job, count_by, filter, find, keep, is_process, by_owner, edit_lwps, owns, only_of, LeastOrNone, ◌<◌, ◌≢◌, ◌≤◌}
pub use Rattle.std.specs.List.{cons_option}
pub use Rattle.proc_table.specs.CommonNames.{cursor_after, nat_eq, with_lwp, without_lwp, ◌++◌, ◌+◌}
pub use Rattle.pid_blocks.specs.Blocks.{rising}
pub use Rattle.lwp_table.specs.Lwps.{LacksLwp, Once, first_lwp}
pub use Rattle.proc_table.specs.Edits.{own_lwp}
pub use Rattle.proc_table.specs.Fresh.{add_lwp, add_process, is_lwp}
pub use Rattle.proc_table.specs.Kept.{AllAbove, IsRow, Named, TableInvariant, drop_process, put_process, set_process}
pub use Rattle.proc_table.specs.Laws.{IsLeast}
pub use Rattle.proc_table.specs.Processes.{is_job_state, is_run_state, is_zombie_state, named_by, of_user, placed}
pub use Rattle.proc_table.specs.Rows.{edit_processes, remove_lwp}
pub use Rattle.proc_table.specs.Walks.{next_child, next_tracee}
pub use Rattle.trace_rows.specs.Before.{FitButPending, FitLwpButPending, FitOrReady, IsSoundButPending, MayStop, MayTell, Ready}
pub use Rattle.trace_rows.specs.Detach.{detached, reported, resumed, run_on, running, signal_alone, steps, untraced, untraced_lwp}
pub use Rattle.trace_rows.specs.Edits.{edited}
pub use Rattle.trace_rows.specs.End.{collector, dead, end, end_each, end_of, exists, left_alone, lost_signals, lwp_after, notifies_of, orphaned, process_after, released, tracer_of, uncollected}
pub use Rattle.trace_rows.specs.End.{waits_where}
pub use Rattle.trace_rows.specs.Facts.{Ended, FitLwp, FitProcess, IfEnded, IsLiveChild, IsLiveOf, IsSound, Linked, MidStepInvariant, Silent, Standing, WithOwner, waited_for}
pub use Rattle.trace_rows.specs.Post.{continues, notified, notifies, posted, posted_lwp, posted_process, posted_set, settle, settled_lwp, settled_process, unwanted}
pub use Rattle.trace_rows.specs.Reports.{IsStopped, report_dropped, reporter, unreported}
pub use Rattle.trace_rows.specs.Sound.{holds, implies, is_end, is_live_at, is_live_child, is_live_of, is_state, names_own, of_owner, pairwise, sound_limits, sound_link, sound_lwp}
pub use Rattle.trace_rows.specs.Sound.{sound_numbers, sound_owners, sound_rows, sound_state}
pub use Rattle.trace_rows.specs.Stop.{detach, ends_process, post, resume, stop, tracers}
pub use Rattle.proc_table.proofs.Changes.{change-done, change_process-at}
pub use Rattle.proc_table.proofs.Cursors.{InBlock-after, cursors-set}
pub use Rattle.proc_table.proofs.Every.{every_found}
pub use Rattle.proc_table.proofs.Rising.{Lacks-from_any, none_above, once}
pub use Rattle.proc_table.proofs.Rows.{found_row, lwp_of-tid, process_of-pid}
pub use Rattle.proc_table.proofs.Stays.{named-same, process_there}
pub use Rattle.signals.specs.Dispositions.{Actions}
pub use Rattle.std.proofs.Common.{IsSome, ap, arith, cond, eq-eqb, eqb-true, inl, inr, length-set, refl, rules, subst, sym, true≢false, ◌∙◌, ◌⊎◌}

-- the tracer of a process that was found
abbrev pub tracer_in : Option ProcData → Option ℕ
tracer_in found = option_and_then (λ p. p.tracer) found
