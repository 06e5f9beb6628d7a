use Rattle.host_lock.proofs.CommonNames.{◌≡◌, ◌-◌, ◌≤◌, ◌++◌, [], length, drop, vec_capacity, vec_len, fresh_view, start_of, new_sessions}
use Rattle.host_lock.proofs.host.make_sessions.Given as goal

abbrev pub invariant-loop-i : goal.invariant-loop-i
invariant-loop-i g l =
    record {
      table : l.unsplit.table_id ≡ l.fn.unsplit.table_id;
      seat : l.unsplit.me ≡ (fresh_view (start_of l.fn.unsplit.me.0) l.i (length l.users - l.i), []);
      made : l.sessions.items ++ new_sessions l.i l.fn.unsplit.table_id (start_of l.fn.unsplit.me.0) (drop l.i l.users) ≡ new_sessions 0 l.fn.unsplit.table_id (start_of l.fn.unsplit.me.0) l.users;
      len : vec_len l.sessions ≡ l.i;
      room : length l.users ≤ vec_capacity l.sessions;
    }
