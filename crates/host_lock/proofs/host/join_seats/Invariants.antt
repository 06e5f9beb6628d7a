use Rattle.host_lock.proofs.CommonNames.{◌≡◌, ℕ, ◌++◌, List, [], reverse, vec_len, SessionData, gathered}
use Rattle.host_lock.proofs.host.join_seats.Given as goal

abbrev pub invariant-loop-session : goal.invariant-loop-session
invariant-loop-session g l =
    (l.seat.table_id ≡ l.table.shared.table_id)
    × ((order : List SessionData) × (b : ℕ) × (l.fn.sessions.items ≡ l.sessions.items ++ reverse order) × (l.seat.me ≡ (gathered l.table.shared.key.start.value order b, [])))

abbrev pub decreases-loop-session : goal.decreases-loop-session
decreases-loop-session g l = vec_len l.sessions
