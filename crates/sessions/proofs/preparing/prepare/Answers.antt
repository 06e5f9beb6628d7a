use Rattle.std.proofs.Common.{length, map, ap, ◌∙◌, arith}
use Rattle.sessions.proofs.CommonNames.{length-map, new_sessions, uid_of}
use Rattle.sessions.proofs.Pairing.{new_sessions_length}
use Rattle.sessions.proofs.preparing.prepare.Goals as goal

pub open_for-requires-after_bounds : goal.open_for-requires-after_bounds
open_for-requires-after_bounds g c κs within =
    let uids = ap length (c.as_slice-3.ensures.value ∙ c.in_ok-room.ensures.uids) ∙ length-map c.as_slice.result.now (uid_of {F = g.row.F.Denot} {T = g.row.T.Denot}) ∙ ap length c.as_slice.ensures.value in
    (omega (arith, uids, c.args.scripts.ok.0, c.requires.some_script.0), omega (arith, uids, c.args.scripts.ok.0, c.requires.some_script.1))

pub zip_sessions-requires-after_bounds : goal.zip_sessions-requires-after_bounds
zip_sessions-requires-after_bounds g c κs within =
    let uids = ap length (c.as_slice-3.ensures.value ∙ c.in_ok-room.ensures.uids) ∙ length-map c.as_slice.result.now (uid_of {F = g.row.F.Denot} {T = g.row.T.Denot}) ∙ ap length c.as_slice.ensures.value in
    ap length c.in_ok-opened.ensures.sessions ∙ new_sessions_length 0 _ _ _ ∙ uids

pub returns-clause-host : goal.returns-clause-host
returns-clause-host g c =
    let uids = ap length (c.as_slice-3.ensures.value ∙ c.in_ok-room.ensures.uids) ∙ length-map c.as_slice.result.now (uid_of {F = g.row.F.Denot} {T = g.row.T.Denot}) ∙ ap length c.as_slice.ensures.value in
    let opened = c.in_ok-opened.ensures.host in
    (opened.0, omega (arith, opened.1, uids, c.args.scripts.ok.0))

pub returns-clause-sessions : goal.returns-clause-sessions
returns-clause-sessions g c =
    let uids = c.as_slice-3.ensures.value ∙ c.in_ok-room.ensures.uids ∙ ap (map (uid_of {F = g.row.F.Denot} {T = g.row.T.Denot})) c.as_slice.ensures.value in
    c.in_ok-jobs.ensures.sessions ∙ c.in_ok-opened.ensures.sessions ∙ ap (new_sessions 0 c.in_ok-opened.opened.host.id c.args.host) uids

pub returns-clause-done : goal.returns-clause-done
returns-clause-done g c = let e = c.in_ok-room.ensures.done in let same = ap length c.as_slice.ensures.value in (e.0, e.1, omega (arith, same, c.args.scripts.ok.0, e.2))

pub returns-clause-sessions_room : goal.returns-clause-sessions_room
returns-clause-sessions_room g c = let e = c.in_ok-room.ensures.sessions in let same = ap length c.as_slice.ensures.value in (e.0, e.1, omega (arith, same, c.args.scripts.ok.0, e.2))

pub returns-clause-transcripts_room : goal.returns-clause-transcripts_room
returns-clause-transcripts_room g c = let e = c.in_ok-room.ensures.transcripts in let same = ap length c.as_slice.ensures.value in (e.0, e.1, omega (arith, same, c.args.scripts.ok.0, e.2))
