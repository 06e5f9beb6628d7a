use Rattle.std.proofs.Common.{ℕ, List, length, sym, refl, ap, ◌∙◌, subst, arith, All}
use Rattle.sessions.proofs.CommonNames.{length-map, Machine, Entry, IsLegal, replay, IsOf, IsBelow, all_of, boxed_script, output_session}
use Rattle.sessions.proofs.Owned.{own_entries}
use Rattle.sessions.proofs.Pairing.{ready, of_host, all_play, all_tell, jobs_length, not_missing}
use Rattle.sessions.proofs.run.play.Goals as goal

pub run_all-requires-clause-jobs : goal.run_all-requires-clause-jobs
run_all-requires-clause-jobs g c κs within =
    let e = c.in-Ok.ensures in
    ready g.T.Report.drafted c.args.host c.in-Ok.ready.host.id c.in-Ok.ready.host c.args.scripts.items c.in-Ok.ready.jobs.items refl e.host.0 c.requires.short (e.sessions, e.steps, e.reports, e.jobs)

pub finish-requires-after_bounds : goal.finish-requires-after_bounds
finish-requires-after_bounds g c κs within =
    let e = c.in-Ok.ensures in
    let can = ready g.T.Report.drafted c.args.host c.in-Ok.ready.host.id c.in-Ok.ready.host c.args.scripts.items c.in-Ok.ready.jobs.items refl e.host.0 c.requires.short (e.sessions, e.steps, e.reports, e.jobs) in
    let each = of_host g.T.Report.drafted c.args.host c.in-Ok.ready.host.id g.T.Report.made_of g.T.Report.tells c.in-Ok.ready.host c.in-Ok.ready.jobs.items c.in-Some.done.items can c.in-Some.ensures.done in
    subst (All (IsOf c.in-Ok.ready.host)) (sym c.split_outputs-sessions.ensures.sessions) (all_of (IsOf c.in-Ok.ready.host) _ each)

pub returns-clause-ran : goal.returns-clause-ran
returns-clause-ran g c =
    let e = c.in-Ok.ensures in
    let f = c.in-Ok-finish.ensures in
    let log : List Entry = g.J.CallLog.entries c.in-Ok-finish.log in
    let legal = subst (λ (m : Machine). IsLegal m log) e.host.0 f.legal in
    let count = e.host.1 ∙ c.args.scripts.ok.0 ∙ sym (length-map c.args.scripts.items boxed_script) in
    record {
      legal = legal;
      host = f.host ∙ ap (λ (m : Machine). replay m log) e.host.0;
      entries = subst (λ (n : ℕ). All (IsBelow n) log) count f.entries;
      transcripts = all_play g.T.Report.drafted c.args.host c.in-Ok.ready.host.id g.T.Report.made_of g.T.Report.tells log c.args.scripts.items c.in-Ok.ready.jobs.items c.in-Some.done.items (e.sessions, e.steps, e.reports, e.jobs) c.in-Some.ensures.done
          c.split_outputs-sessions.result.0.items c.split_outputs-sessions.result.1.items c.split_outputs-sessions.ensures.sessions c.split_outputs-sessions.ensures.transcripts f.sessions;
      own = own_entries c.args.host log c.assert_invariant.ensures f.users legal;
    }

pub returns-clause-reports : goal.returns-clause-reports
returns-clause-reports g c =
    let e = c.in-Ok.ensures in
    all_tell g.T.Report.drafted c.args.host c.in-Ok.ready.host.id g.T.Report.made_of g.T.Report.tells c.args.scripts.items c.in-Ok.ready.jobs.items c.in-Some.done.items (e.sessions, e.steps, e.reports, e.jobs) c.in-Some.ensures.done
    c.split_outputs-sessions.result.1.items c.split_outputs-sessions.ensures.transcripts

pub run_all-requires-clause-room : goal.run_all-requires-clause-room
run_all-requires-clause-room g c κs within =
    let e = c.in-Ok.ensures in
    let len = jobs_length g.T.Report.drafted c.args.host c.in-Ok.ready.host.id c.args.scripts.items c.in-Ok.ready.jobs.items (e.sessions, e.steps, e.reports, e.jobs) in
    (e.done.0, e.done.1, omega (arith, len, e.done.2))

pub split_outputs-sessions-requires-clause-sessions : goal.split_outputs-sessions-requires-clause-sessions
split_outputs-sessions-requires-clause-sessions g c =
    let e = c.in-Ok.ensures in
    let len = jobs_length g.T.Report.drafted c.args.host c.in-Ok.ready.host.id c.args.scripts.items c.in-Ok.ready.jobs.items (e.sessions, e.steps, e.reports, e.jobs) in
    (e.sessions_room.0, e.sessions_room.1, omega (arith, len, c.in-Some.ensures.room.0, e.sessions_room.2))

pub split_outputs-sessions-requires-clause-transcripts : goal.split_outputs-sessions-requires-clause-transcripts
split_outputs-sessions-requires-clause-transcripts g c =
    let e = c.in-Ok.ensures in
    let len = jobs_length g.T.Report.drafted c.args.host c.in-Ok.ready.host.id c.args.scripts.items c.in-Ok.ready.jobs.items (e.sessions, e.steps, e.reports, e.jobs) in
    (e.transcripts_room.0, e.transcripts_room.1, omega (arith, len, c.in-Some.ensures.room.0, e.transcripts_room.2))

pub unreachable-requires : goal.unreachable-requires
unreachable-requires g c =
    let e = c.in-Ok.ensures in
    let len = jobs_length g.T.Report.drafted c.args.host c.in-Ok.ready.host.id c.args.scripts.items c.in-Ok.ready.jobs.items (e.sessions, e.steps, e.reports, e.jobs) in
    let all = ap length c.split_outputs-sessions.ensures.sessions ∙ length-map c.in-Some.done.items output_session in
    not_missing c.in-Ok.ready.host c.split_outputs-sessions.result.0.items c.in-Err.field-0 c.in-Err.ensures.missing (omega (arith, len, all, c.in-Some.ensures.room.0, e.host.1))
