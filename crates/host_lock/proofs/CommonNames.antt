-- The names that several proofs speak by: those of the library, of the crates below, and of this crate's definitions.
pub use Rattle.atomic_table.proofs.Lists.{at_set, at_snoc, set_again, set_else}
pub use Rattle.atomic_table.specs.Table.{Allows, Final, Joins, Me, Seen, Splits, State, gives, keeps, opening, rest, step, takes}
pub use Rattle.host_lock.specs.History.{History, history}
pub use Rattle.host_lock.specs.Journal.{IsLegal, StartsWith, asked, entries_of, entry, next_entry, replay}
pub use Rattle.host_lock.specs.Limits.{max_calls, max_sessions}
pub use Rattle.host_lock.specs.Rule.{AtTurn, Closes, Each, Fits, HasCounted, HasLearned, HasTurned, InSlot, IsAtRest, IsOut, M, Matches, SharedInvariant, TakesSlot, Tells, awaits, both, budget_of, calls_of, counted, drawn, drew}
pub use Rattle.host_lock.specs.Rule.{first_known, fresh, fresh_view, has_slot, has_ticket, longer, longest, longest_of, looked, mine_of, moment_view, number_of, once, opening_view, others, owes, parts_of, released, known_of, session_view, slot_of}
pub use Rattle.host_lock.specs.Rule.{snapshot_of, split_left, split_right, staged, start_of, taken, ticket_in, ticket_of, times, total, view_in}
pub use Rattle.host_lock.specs.Sessions.{InJournal, IsAt, IsBelow, Makes, SessionData, account_of, gathered, new_session, new_sessions, known_by}
pub use Rattle.host_lock.specs.Views.{Account, Counted, Holding, Idle, Stage, View, Waiting, spent}
pub use Rattle.host_lock.specs.declared.journal.Entry.{Entry}
pub use Rattle.host_lock.specs.declared.view.HostSlot.{HostSlot}
pub use Rattle.host_lock.specs.declared.view.HostSlot.TheVariants.{Taken, Present}
pub use Rattle.requests.specs.Isolation.{Users, host_after, reply_of}
pub use Rattle.requests.specs.Machine.{Machine}
pub use Rattle.step_types.specs.{Plain.PlainStep, Replies.is_memory, declared.Reply.Reply}
pub use Rattle.std.proofs.Common.{Bool, List, MatchBool, Some, [], add-one, ap, append-nil, append_assoc, ap₂, arith, cond, drop, drop-cons, eq-eqb, eqb, eqb-true, false, get_or, if◌then◌else◌, inl, inr, leb, length}
pub use Rattle.std.proofs.Common.{length-append, map, ne_eqb, refl, reverse, rules, set, subst, suc, sym, take, true, true≢false, vec_capacity, vec_len, zero, ℕ, ⊎_elim, ◌%◌, ◌*◌, ◌++◌, ◌+◌, ◌-◌, ◌<◌, ◌==◌, ◌^◌, ◌∙◌, ◌∷◌, ◌≡◌, ◌≢◌, ◌≤◌, ◌⊎◌}
pub use Rattle.std.proofs.lemmas.List.{get_or_default, map-append, nil_from_length, reverse-append}
pub use Rattle.std.proofs.lemmas.List.Elements.{filter-append}
pub use Rattle.std.specs.declared.snapshot.Snapshot.{Snapshot}
pub use lib.ListN.{get_elem?}
pub use mathlib.Core.Logic.{dite}
pub use mathlib.Core.Option.{none, some, some-injective, some-ne-none}
pub use native.Mathlib.Decide.{ℕ_discrete}
