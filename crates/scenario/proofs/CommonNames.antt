-- The words of runs, scripts and answers, from one place.
pub use Rattle.host_lock.specs.Boxed.{own_step}
pub use Rattle.host_lock.specs.declared.journal.Entry.{Entry}
pub use Rattle.pid_blocks.specs.Blocks.{rising, slot, users}
pub use Rattle.pid_blocks.specs.Users.{IsUser}
pub use Rattle.requests.specs.Isolation.{Users}
pub use Rattle.requests.specs.Machine.{Machine, empty}
pub use Rattle.step_types.specs.{Plain.UserStep, Plain.PlainStep, declared.Reply.Reply}
pub use Rattle.requests.specs.Run.{asked_by, replies}
pub use Rattle.requests.specs.View.{alone}
pub use Rattle.trace_rows.proofs.FilteredLists.{All-map, All-where}
pub use Rattle.scenario_runs.proofs.WriteLemmas.{Front, appends_more}
pub use Rattle.scenario_runs.specs.Lines.{Answered, lines, lines_after, lines_of, text_of}
pub use Rattle.scenario_runs.specs.Runs.{Writes, answered, paired, shown}
pub use Rattle.scenario_runs.specs.declared.style.Style.{Style}
pub use Rattle.scenario_text.specs.Plan.{Plan, with_policies, first_policy, max_steps, policies_in, with_installed}
pub use Rattle.sessions.specs.Boxed.{boxed_script}
pub use Rattle.sessions.specs.PlainRuns.{AllAnswer, AreFew, Ran}
pub use Rattle.sessions.specs.Runs.{AllPlay, AllTell, OwnEntries, RefusesFor, entries_by}
pub use Rattle.sessions.specs.declared.boxing.BoxedScript.{BoxedScript}
pub use Rattle.std.proofs.Math.ListN.{set}
pub use Rattle.std.proofs.lemmas.Bool.{cases_eq, cases_lt, eq-eqb}
pub use Rattle.std.proofs.lemmas.Bool.Decides.{nat_tests}
pub use Rattle.std.proofs.lemmas.List.{at_drop_more, get_or-map, length-map, map-append, map-set, take-append-drop}
pub use Rattle.std.proofs.lemmas.List.Elements.{All-from_recursion, recursion_from_All}
pub use Rattle.std.specs.Global.{Global}
pub use Rattle.std.specs.Io.KnownBytes.{Appends}
pub use Rattle.std.specs.List.{AllByRecursion, concat, flat_map}
pub use Rattle.std.specs.Prelude.{All, Vec, vec_len, ⊤}
pub use Rattle.std.specs.Vec.Iter.{into_iter_items}
pub use Rattle.scenario.specs.Grouped.{answers_by, shown_grouped}
pub use Rattle.scenario.specs.Scripts.{AreMade, IsMade, Shows, answers_by_scripts, has_steps, replies_in, scripts_in, some_steps, steps_of, text_in, told_by, told_to}
pub use Rattle.trace_rows.proofs.Every.{All-both, All-imply}
