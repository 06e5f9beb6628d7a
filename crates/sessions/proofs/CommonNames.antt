-- The words of scripts, sessions and runs, from one place.
pub use Rattle.host_lock.proofs.Totals.{all_of, each_of}
pub use Rattle.host_lock.specs.Answers.{AnswersCall, GivesBack}
pub use Rattle.host_lock.specs.Boxed.{SmallStep, own_step}
pub use Rattle.host_lock.specs.Journal.{IsLegal, StartsWith, asked, entries_of, entry, replay}
pub use Rattle.host_lock.specs.Limits.{max_calls, max_sessions}
pub use Rattle.host_lock.specs.Rule.{Each}
pub use Rattle.host_lock.specs.Sessions.{HostData, InJournal, IsBelow, IsOf, Makes, SessionData, new_session, new_sessions}
pub use Rattle.host_lock.specs.declared.journal.Entry.{Entry}
pub use Rattle.requests.proofs.SoundHostIsApart.{users_are_apart_in_a_sound_host}
pub use Rattle.requests.specs.Machine.{Machine}
pub use Rattle.step_types.specs.{Plain.UserStep, Plain.PlainStep, Replies.is_memory}
pub use Rattle.requests.specs.Run.{asked_by, last, replies}
pub use Rattle.requests.specs.View.{View, alone, view, with_view}
pub use Rattle.sessions.specs.Boxed.{boxed_script, report_of, steps_of, uid_of}
pub use Rattle.sessions.specs.SessionScripts.{AllDone, Drafted, IsBegun, IsDone, IsReady, output_session, output_transcript, script_report, script_session, script_steps}
pub use Rattle.sessions.specs.Made.{HasMade, Pairs, made}
pub use Rattle.sessions.specs.PlainRuns.{AllAnswer, Answers, AreFew, RanBy}
pub use Rattle.sessions.specs.Runs.{AllPlay, AllTell, OwnEntries, Plays, RefusesFor, entries_by, plain_script, whole}
pub use Rattle.sessions.specs.declared.boxing.BoxedScript.{BoxedScript}
pub use Rattle.sessions.specs.declared.session_script.SessionOutput.{SessionOutput}
pub use Rattle.sessions.specs.declared.session_script.SessionScript.{SessionScript}
pub use Rattle.sessions.specs.declared.script.Transcript.{Transcript}
pub use Rattle.std.proofs.lemmas.Bool.Decides.{nat_tests}
pub use Rattle.std.proofs.lemmas.List.{get_or-map, length-map, length-reverse, nil_from_length, reverse-append, reverse-reverse}
pub use Rattle.std.proofs.lemmas.List.Elements.{All-from_recursion, recursion_from_All}
pub use Rattle.std.specs.List.{AllByRecursion}
pub use Rattle.std.specs.Vec.Iter.{into_iter_items}
