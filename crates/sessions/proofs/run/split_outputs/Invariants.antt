use Rattle.std.proofs.Common.{◌≡◌, ◌+◌, ◌≤◌, ◌++◌, List, map, reverse, vec_len, vec_capacity}
use Rattle.sessions.proofs.CommonNames.{SessionOutput, output_session, output_transcript}
use Rattle.sessions.proofs.run.split_outputs.Given as goal

abbrev pub invariant-loop-one : goal.invariant-loop-one
invariant-loop-one g l =
    (past : List (SessionOutput g.row.O.Denot)) × (l.fn.done.items ≡ past ++ reverse l.done.items) × (l.sessions.items ≡ map output_session past) × (l.transcripts.items ≡ map output_transcript past)
    × (vec_len l.done + vec_len l.sessions ≤ vec_capacity l.sessions) × (vec_len l.done + vec_len l.transcripts ≤ vec_capacity l.transcripts)

abbrev pub decreases-loop-one : goal.decreases-loop-one
decreases-loop-one g l = vec_len l.done
