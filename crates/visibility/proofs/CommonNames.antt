-- The names that several proofs of this crate use, from one place.
pub use Rattle.requests.proofs.CommonNames.{LwpData, pid_block, pid_owner, slot, tid_block, users, IsUser, Rise, TableInvariant, is_live, is_run, of_user, process_of, find_seen, owns, seen_lwp}
pub use Rattle.requests.proofs.CommonNames.{visible_process, ProcData, Apart, Closed, Debugger, GoodLwp, GoodProc, InBlock, LiveOwner, LiveRow, Users, host_after, own_replies, own_view, replies_to}
pub use Rattle.requests.proofs.CommonNames.{reply_of, Installed, Machine, after, empty, installed_by, PlainStep, All-where, every, is_own, named, own, Bool, IfSome, List, None, Option, Some, [], ap}
pub use Rattle.requests.proofs.CommonNames.{append-nil, append_assoc, ap₂, arith, drop, eq-eqb, eqb, eqb-true, false, filter, get_or, if◌then◌else◌, inl, inr, leb, length, map, negsuc, not, pos, refl}
pub use Rattle.requests.proofs.CommonNames.{rules, subst, suc, sym, true, true≢false, zero, ℕ, ℤ, ◌&&◌, ◌++◌, ◌+◌, ◌-◌, ◌<◌, ◌==◌, ◌∙◌, ◌∷◌, ◌≡◌, ◌≢◌, ◌≤◌, nat_tests, length-append, length-map}
pub use Rattle.requests.proofs.CommonNames.{AllByRecursion, list_any, is_some, option_map, Rule, All-both, All-filter, All-imply, and_left, and_right, by_bool, choose, owns_owner, find, take, Errno}
pub use Rattle.requests.proofs.CommonNames.{Options, is_child, fits, candidates, answers, refuses, wait, is_which, reach, kill, ptrace, turn_seen, calls, checked, step, every_untested, sound, Steps}
pub use Rattle.step_types.specs.{Plain.UserStep, declared.Reply.Reply}
pub use Rattle.requests.proofs.IsolationLaws.{alone_law, at_slot, keeps_apart, live_only, one_step, other_step, run_is, seen_alone, twin, two_lists}
pub use Rattle.requests.proofs.SoundHostIsApart.{users_are_apart_in_a_sound_host}
pub use Rattle.requests.proofs.ProcessesAbove.{above, above_first, above_next, above_none, first_above, next_over}
pub use Rattle.requests.specs.Isolation.{Alike, AlikeSteps, AlikeWhich, ApartAtFirst, ApartInAView, ForeignNumber, OwnList, Ran, RunsArePrivate, TwoRuns, Unseen, answered, handles, installs, kills}
pub use Rattle.requests.specs.Isolation.{lists, ptraces, sigactions, somes, spawns, turns, waits}
pub use Rattle.requests.specs.Run.{asked_by, last, replies}
pub use Rattle.requests.specs.View.{View, alone, view, with_view}
pub use Rattle.trace_rows.proofs.FilteredLists.{filter-none, find_only, find_some}
pub use Rattle.std.proofs.Common.{vec_capacity, vec_len}
pub use Rattle.std.proofs.lemmas.List.{map-append}
pub use Rattle.std.proofs.lemmas.Option.{slice_get_within, get_or_from_slice_get}
pub use Rattle.std.specs.Prelude.{IsTrue, slice_get, ◌↔◌}
pub use Rattle.std.specs.Vec.Iter.{into_iter_items, into_iter_len}
pub use Rattle.visibility.specs.Runs.{BothGiven, MakesStep, Wanting, asked, reply_given}
