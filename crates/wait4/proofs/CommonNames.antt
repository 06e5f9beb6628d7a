-- The names that several proofs of this crate use, from one place.
pub use Rattle.pid_blocks.specs.Blocks.{pid_owner}
pub use Rattle.proc_table.proofs.Finds.{below_or_not, equal_or_not}
pub use Rattle.proc_table.proofs.Firsts.{find-above_zero}
pub use Rattle.proc_table.proofs.Least.{least_or_none}
pub use Rattle.proc_table.proofs.Seen.{any-found}
pub use Rattle.proc_table.proofs.Stays.{named-untraced}
pub use Rattle.trace_rows.proofs.FilteredLists.{All-where}
pub use Rattle.trace_rows.proofs.IsolationOfSignals.{notified_same, user_not_one}
pub use Rattle.trace_rows.proofs.IsolationRelation.{SameOwnership, Sim, each_same, either, named, not_own, rows_query}
pub use Rattle.trace_rows.proofs.SoundRowsAreApart.{others_after, own_after, own_start, owns_owner, owns_user, sound_closed}
pub use Rattle.trace_rows.specs.Closed.{Closed, GoodProc}
pub use Rattle.std.proofs.Common.{SFits, ltb, negsuc, of_z, pos, suc, to_z, w64, zero, ℤ}
pub use Rattle.std.proofs.Math.Path.{fun_ext}
pub use Rattle.std.proofs.lemmas.Int.{to_z-of_z}
pub use Rattle.std.specs.Int.Signed.{lt_z}
pub use Rattle.trace_rows.proofs.CommonNames.{AllAbove, AllByRecursion, Bool, Ended, FitLwp, FitProcess, IfEnded, IfSome, InOwnBlock, IsLiveOf, IsSound, IsUser, LeastOrNone, List, LwpData, MayTell}
pub use Rattle.trace_rows.proofs.CommonNames.{MidStepInvariant, None, Option, ProcData, Rise, Rows, Some, State, [], ap, arith, cases_Bool, cond, drop_process, each, eq-eqb, eqb-true, every_found}
pub use Rattle.trace_rows.proofs.CommonNames.{false, filter, filter_map, find, first_lwp, found_row, if◌then◌else◌, inl, is_end, is_live, is_some, is_this, keep, list_any, map, named-same, nat_eq}
pub use Rattle.trace_rows.proofs.CommonNames.{nat_tests, next_child, next_tracee, none_above, not, notified, only_of, owns, process_of, put_process, refl, rules, set_process, subst, sym, true, ℕ}
pub use Rattle.trace_rows.proofs.CommonNames.{◌&&◌, ◌==◌, ◌||◌, ◌∙◌, ◌∷◌, ◌≡◌, ◌≢◌, ◌≤◌}
pub use Rattle.trace_rows.proofs.Edited.{If_more, lwps_left}
pub use Rattle.trace_rows.proofs.Every.{All-both, All-filter, All-imply, and_left, find_none}
pub use Rattle.trace_rows.proofs.Found.{live_named}
pub use Rattle.trace_rows.proofs.Notified.{notified-none}
pub use Rattle.trace_rows.proofs.Numbers.{the_row}
pub use Rattle.trace_rows.proofs.Passes.{found_above, own_rows}
pub use Rattle.trace_rows.proofs.Settling.{zero_apart}
pub use Rattle.trace_rows.proofs.SoundAfterEdit.{Edit, Row, Same, Stay, edit_holds, holds_sound, lives_after, no_ring, nobody, none_gone, row_at, sound_holds, stay}
pub use Rattle.trace_rows.proofs.SoundAfterNotify.{live_told, notified_sound}
pub use Rattle.wait4.specs.Collect.{answer, candidates, collect, collect_one, collected, collected_in, fits, is_child, lesser, names_as, numbered, reportable, reported, rows_after, stays, told, without_report}
pub use Rattle.wait4.specs.Laws.{AfterOthers, AfterOwn, CollectOwn, ReportedLeast, ReportedOwn}
pub use Rattle.step_types.specs.{Status.IsStatus, Status.ended, Status.word, declared.Options.Options}
pub use Rattle.wait4.specs.declared.Collected.TheVariants.{NoChild, Nothing}
pub use Rattle.wait4.specs.declared.collecting.Relation.TheVariants.{Parent, Tracer}
