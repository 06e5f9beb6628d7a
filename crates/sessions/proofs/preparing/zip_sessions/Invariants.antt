use Rattle.std.proofs.Common.{◌≡◌, ◌+◌, ◌≤◌, ◌++◌, List, length, map, reverse, vec_len, vec_capacity}
use Rattle.sessions.proofs.CommonNames.{Each, SessionData, BoxedScript, IsBegun, script_report, script_session, script_steps, report_of, steps_of}
use Rattle.sessions.proofs.preparing.zip_sessions.Given as goal

abbrev pub invariant-loop-script : goal.invariant-loop-script
invariant-loop-script g l =
    (past : List SessionData) × (done : List (BoxedScript g.row.F.Denot g.row.T.Denot)) × (l.fn.sessions.items ≡ past ++ reverse l.sessions.items) × (l.fn.scripts.items ≡ done ++ reverse l.scripts.items)
    × (map script_session l.jobs.items ≡ past) × (map script_steps l.jobs.items ≡ map steps_of done) × (map script_report l.jobs.items ≡ map report_of done) × Each (IsBegun g.T.Report.drafted) l.jobs.items
    × (length l.sessions.items ≡ length l.scripts.items) × (vec_len l.scripts + vec_len l.jobs ≤ vec_capacity l.jobs)

abbrev pub decreases-loop-script : goal.decreases-loop-script
decreases-loop-script g l = vec_len l.scripts
