-- The names that proofs speak by: those of the library, of the crates below, and of this crate's definitions.
pub use Rattle.requests.specs.CommonNames.{AllByRecursion, flat_map, join_with_byte, list_all, list_any, Err, Ok, Result, IsSomeAnd, count_by, int_lt, option_map, Bool, List, None, Option, Some, []}
pub use Rattle.requests.specs.CommonNames.{codes, decimal, false, filter, find, get_or, if◌then◌else◌, is_none, is_some, leb, length, ltb, map, negsuc, not, pos, set, true, zip, ℕ, ℤ, ◌&&◌, ◌*◌, ◌++◌}
pub use Rattle.requests.specs.CommonNames.{◌+◌, ◌==◌, ◌||◌, ◌∷◌, ◌≡◌, ◌≢◌, ◌≤◌, ◌⊎◌, first_free, next_free, pid_block, pid_owner, rising, slot, tid_block, tid_owner, users, IsUser, Errno, EAGAIN}
pub use Rattle.requests.specs.CommonNames.{EINVAL, ESRCH, bit, has, set_of, without, SIGCHLD, SIGKILL, SIGSTOP, SIGTRAP, after_exec, default_action, disposition_of, is_signal, maskable, may_have}
pub use Rattle.requests.specs.CommonNames.{set_disposition, unblockable_set, Action, Disposition, asks, default_mask, entry_flags, mask_with, shows, stop_where, Call, EventMask, PTRACE_FORK}
pub use Rattle.requests.specs.CommonNames.{PTRACE_LWP, PTRACE_SCE, PTRACE_SCX, PL_FLAG_EXITED, Differ, LacksLwp, born, first_lwp, has_lwp, lwp_of, next_lwp, without_lwp, Due, LwpData, Mode, InCall}
pub use Rattle.requests.specs.CommonNames.{User, VforkWait, map_lwps, add_lwp, add_process, is_lwp, is_process, lwp_count, lwp_count_of, process_count, AllAbove, InOwnBlock, InOwnersBlock}
pub use Rattle.requests.specs.CommonNames.{TableInvariant, IsRow, Named, Rise, drop_lwp, set_lwp, set_process, is_live, is_run, is_zombie_state, named_by, of_user, placed, process_of, reported_stop, reporting}
pub use Rattle.requests.specs.CommonNames.{spawned, traces, Rows, by_owner, change, change_lwp, change_process, each, is_numbered, owner, remove_lwp, find_seen, owns, seen_lwp, visible_process, ProcData}
pub use Rattle.requests.specs.CommonNames.{State, Job, Trace, end, end_each, left_alone, lwp_after, meets, notifies_of, process_after, released, tracer_of, continues, notified, notifies, posted}
pub use Rattle.requests.specs.CommonNames.{posted_lwp, posted_process, settle, settled_lwp, settled_process, unwanted, is_due, is_end, is_live_at, is_live_of, mode_fits, names_own, sound_rows}
pub use Rattle.requests.specs.CommonNames.{status_fits, detach, post, resume, stop, tracers, signal_alone, no_events, Resumption, Stepping, Settings, StopInfo, info, lwp_info, answer, candidates, collect, fits, is_child, reportable, reported}
pub use Rattle.requests.specs.CommonNames.{rows_after, told, without_report, Collected, Options, StatusKind, Decision, Rule, PlainStep, bare, with_handler, Act, Reply, Request, Step, Closed, GoodLwp}
pub use Rattle.requests.specs.CommonNames.{GoodProc, LiveOwner, LiveRow, InBlock}
pub use Rattle.std.specs.Fmt.{HasWritten, IsPlainFormatter}
pub use Rattle.std.proofs.Common.{IfSome, ap, append-nil, ap₂, arith, drop, eq-eqb, eqb, eqb-true, filter_map, get_or-set_other, inl, inr, length-append, length-set, lt-ltb, nat_eq, refl, rules}
pub use Rattle.std.proofs.Common.{subst, suc, sym, take, true≢false, zero, ◌-◌, ◌<◌, ◌∙◌}
pub use Rattle.std.proofs.lemmas.Bool.{cases_Bool, cases_lt, le-leb, le-ltb, leb-false, leb-true, ltb-true, not-false}
pub use Rattle.std.proofs.lemmas.Bool.Decides.{nat_tests}
pub use Rattle.std.proofs.lemmas.List.{append_assoc, length-map, set-get_or, take_all, same_lists, get_or_default}
pub use Rattle.signals.specs.Laws.{IsSignal}
pub use Rattle.proc_table.proofs.Changes.{change-at, change_lwp-at, change_process-at, changed, changed_lwp, filter_map-map, map-id, remove_lwp-is}
pub use Rattle.proc_table.proofs.Every.{every_found, every_untested, found_tested, some_and}
pub use Rattle.proc_table.proofs.Rows.{found_row, is_process-map, lwp_of-map, lwp_of-tid, other_number, process_of-pid, row_found, same_number}
pub use Rattle.proc_table.proofs.Seen.{lwp-within, owns-kept, seen_lwp-kept}
pub use Rattle.proc_table.proofs.Stays.{changed-pid, changed_lwp-keeps, lwp_there, named-same, own_lwp-keeps, process-set, process_there}
pub use Rattle.trace_rows.specs.Before.{FitButPending, FitLwpButPending, FitOrReady, IsSoundButPending, MayStop, Ready}
pub use Rattle.trace_rows.specs.Facts.{FitLwp, FitProcess, IsLiveChild, IsLiveOf, IsSound, Linked, Standing, MidStepInvariant, WithOwner, waited_for}
pub use Rattle.trace_rows.proofs.SoundAfterEdit.{Beside, Holds, KeptLwp, KeptRow, Leaves, Like, Row, Same, Stay, edit_holds, found_number, holds_sound, kept_all, kept_lwp, kept_row, like_self}
pub use Rattle.trace_rows.proofs.SoundAfterEdit.{lwps_alone, no_ring, nobody, none_gone, row_is, same_lwp, sound_holds, stay, stay_where}
pub use Rattle.trace_rows.proofs.ProcessEdits.{changed_own, changed_row, changes_hold}
pub use Rattle.trace_rows.proofs.Edited.{If_more, count_edit, edit_none, find_edit, if_at, one_gone, some_is}
pub use Rattle.trace_rows.proofs.Every.{All-any, All-append, All-both, All-filter, All-from_list_all, All-imply, and_left, and_right, any_holds, any_more, both, by_bool, choose, choose_both}
pub use Rattle.trace_rows.proofs.Every.{count-cons, find_some, list_all-from_All, not_some, or_left, any_forward, or_true}
pub use Rattle.trace_rows.proofs.FromSound.{IsSound-from, sound_rows-from, user_at, zip_users}
pub use Rattle.trace_rows.proofs.Numbers.{one_row, own_lwps, the_lwp, the_row}
pub use Rattle.trace_rows.proofs.Passes.{found_above, own_rows, process_edited, rise_edited, filter_map_twice}
pub use Rattle.trace_rows.proofs.SoundAfterSettle.{live_fits, live_state, pending_fits}
pub use Rattle.trace_rows.proofs.SoundAfterPost.{detach_sound, end_at, post_sound, resume_sound}
pub use Rattle.trace_rows.proofs.Settling.{disposed_sound, redisposed_lwp, settle_sound, zero_apart}
pub use Rattle.trace_rows.proofs.Single.{OneLwp, OneProcess, lwp_sound, process_sound}
pub use Rattle.trace_rows.proofs.SoundAfterStop.{find_passes, may_stop, run_quiet, sound_ready, stopped_sound}
pub use Rattle.trace_rows.proofs.IsolationOfEdits.{Stays, branch_rows, change_same, kin_of, lwp_added_same, lwp_removed_same, lwp_same_after, process_added_same, process_same_after, put_at}
pub use Rattle.trace_rows.proofs.IsolationOfEdits.{slots_differ, stays_if}
pub use Rattle.trace_rows.proofs.FilteredLists.{All-where, any_only, every, filter-all, filter_only, filter_same}
pub use Rattle.trace_rows.proofs.SoundRowsAreApart.{live_owner, lwps_seen, owns_block, owns_owner, pid_in_block, sound_closed, tid_in_block}
pub use Rattle.trace_rows.proofs.IsolationRelation.{Kept, Sim, at_number, each_same, either, is_own, lwp_query, lwps_query, named, not_own, own, own_lwp, process_same, row_query, rows_query}
pub use Rattle.wait4.proofs.SoundAfterCollect.{by_kept, collect_sound}
pub use Rattle.requests.specs.Actors.{HasLwp, IsActing}
pub use Rattle.requests.specs.{Sigaction.is_refused, Sigaction.sigaction, Wait.collect_reply, Wait.wait, Spawn.spawn, Spawn.spawn_with, List.list}
pub use Rattle.requests.specs.Handle.{decided, done, handled_by, handles, handles_status, handles_stop, install, policies_in, policies_of, view_of, handle}
pub use Rattle.step_types.specs.{Plain.caller_of, Plain.installs, Replies.is_memory, Replies.is_refusal, Status.no_options}
pub use Rattle.requests.specs.Hosts.{Steps, machine_of}
pub use Rattle.requests.specs.Isolation.{Alone, Apart, Debugger, KeepsApart, OneStep, OtherStep, OwnRun, ApartInASoundHost, TwoLists, Users, host_after, own_replies, own_view, replies_to, reply_of}
pub use Rattle.requests.specs.Laws.{SoundKept, SoundRuns, act_fits, step_fits}
pub use Rattle.requests.specs.Leave.{Numbers, child_stop, due_at_birth, exec_rows, exit_stop, exits_lwp, forked, forks, in_mode, leaves, makes_lwp, room_for_lwp, room_for_process, with_child}
pub use Rattle.requests.specs.Machine.{After, Installed, Machine, after, empty, installed_by, outcome_of}
pub use Rattle.requests.specs.Memory.{Attempts, may_want, takes_memory}
pub use Rattle.requests.specs.Outcome.{Gives, Outcome, answers, refuses, stops_or, stops_with, trap}
pub use Rattle.requests.specs.Ptrace.{about, attach, bad_argument, closes_chain, command, commands, commands_stopped, does, is_attach, is_trace_me, ptrace, resumes, set_mask}
pub use Rattle.requests.specs.Ptrace.{shows_info, stop_first, suspend, switched, target_of, trace_me, traced_by, with_signal}
pub use Rattle.requests.specs.Kill.{is_which, kill, next_other, post_all, post_if_live, reach, reached}
pub use Rattle.requests.specs.Sound.{sound, sound_installed}
pub use Rattle.requests.specs.Step.{calls, checked, step, step_of, uncalled}
pub use Rattle.requests.specs.Turn.{acts, computes, due_or_more, due_stop, in_user_mode, job_stops, next_signal, plain, raises, signal_or_act, takes, takes_by_default, takes_untraced, turn, turn_by}
pub use Rattle.requests.specs.Turn.{turn_of, turn_seen, waits, without_signal}
pub use Rattle.requests.specs.Callers.{IsCaller, IsCallerByNumber, Barred}
pub use Rattle.std.proofs.Math.ListN.{get_or-map, replicate}
pub use Rattle.requests.specs.Ending.{may_end}
pub use Rattle.std.proofs.lemmas.List.Folds.{list_any-append, list_all-append, find-append}
