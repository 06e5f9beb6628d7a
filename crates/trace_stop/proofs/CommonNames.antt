-- The names that several proofs of this crate use, from one place.
pub use Rattle.proc_table.proofs.Changes.{filter_map-map, map-id}
pub use Rattle.proc_table.proofs.Every.{every_found, every_untested, found_tested}
pub use Rattle.proc_table.proofs.Rows.{found_row, process_of-pid}
pub use Rattle.proc_table.proofs.Stays.{named-same, named-untraced, process_there}
pub use Rattle.trace_stop.specs.Descent.{EndsToo, IsLiveTracee, kills, lost_at, spares, traces_live_above}
pub use Rattle.trace_stop.specs.Laws.{DetachedEnd, EndSound, LeafEnd, LeafEndLeavesFewer, LeafEndSparesNoDoomed, LeafEndsFirst, LeafEndsNoOther, LeafExists, TraceeDoomed, end_alone, traces_live}
pub use Rattle.trace_stop.specs.Leaving.{IsLeaving, LeavingLwp, LeavingRow, lwps_ended, without_lwps}
pub use Rattle.std.proofs.Common.{Bool, IfSome, List, MatchOption, None, Option, Some, [], ap, arith, bit_or, count_by, eq-eqb, eqb, eqb-true, false, filter, filter_map, find, if◌then◌else◌, is_none, is_some}
pub use Rattle.std.proofs.Common.{length, ltb, map, not, option_map, refl, rules, subst, suc, sym, true, true≢false, unwrap_or, zero, ℕ, ◌&&◌, ◌+◌, ◌-◌, ◌<◌, ◌==◌, ◌||◌, ◌∙◌, ◌∷◌, ◌≡◌, ◌≢◌, ◌≤◌}
pub use Rattle.std.proofs.Math.Bool.{and-false, or-false}
pub use Rattle.std.proofs.Math.Path.{fun_ext}
pub use Rattle.trace_rows.proofs.Chains.{chains_end, chains_meet, meets-more, meets-suc, meets-zero, no_ring, tracee_deeper}
pub use Rattle.trace_rows.proofs.CommonNames.{AllByRecursion, Differ, FitProcess, InOwnBlock, InOwnersBlock, IsLeast, IsLiveChild, IsSound, IsStopped, LeastOrNone, Linked, LwpData, MidStepInvariant, Named, ProcData, Rise, reporting}
pub use Rattle.trace_rows.specs.declared.Resumption.{Resumption}
pub use Rattle.trace_rows.proofs.CommonNames.{Rows, SIGCHLD, SIGKILL, Standing, TableInvariant, WithOwner, by_owner, collector, dead, detached, drop_lwp, drop_process, each, end, end_each, end_of, first_lwp, exists}
pub use Rattle.trace_rows.proofs.CommonNames.{is_live, is_live_at, is_live_of, is_numbered, is_this, left_alone, list_any, lost_signals, lwp_after, lwp_of, map_lwps, nat_tests, next_child, next_tracee, not-false}
pub use Rattle.trace_rows.proofs.CommonNames.{notified, option_and_then, orphaned, own_lwp, posted_lwp, posted_process, process_after, process_of, put_process, released, reported, resumed, running, set_process, traces}
pub use Rattle.trace_rows.proofs.CommonNames.{keep, tracer_in, uncollected, untraced, untraced_lwp, without}
pub use Rattle.trace_rows.proofs.Edited.{If_more, edit_none, lwps_left, some_is}
pub use Rattle.trace_rows.proofs.Every.{All-any, All-both, All-edit, All-imply, and_left, and_right, any_holds, any_more, by_bool, choose, count-cons, count_more, count_same, find_none, find_passes, find_some, none_of}
pub use Rattle.trace_rows.proofs.Every.{none_passes, or_true}
pub use Rattle.trace_rows.proofs.Found.{any_by_number, listed, live_found, live_named, live_row, own_row}
pub use Rattle.trace_rows.proofs.Notified.{notified-none}
pub use Rattle.trace_rows.proofs.Numbers.{the_lwp, the_row}
pub use Rattle.trace_rows.proofs.Passes.{KeepsNumbers, KeepsOwners, any_edited, any_same, count_edited, each_agree, each_equal, each_same, each_twice, filter_map_same, own_rows, process_edited, rise_edited}
pub use Rattle.trace_rows.proofs.SoundAfterPost.{end_at, post_sound}
pub use Rattle.trace_rows.specs.End.{dooms, is_doomed, meets, notifies_of, tracer_of}
pub use Rattle.trace_rows.specs.Laws.{chain}
