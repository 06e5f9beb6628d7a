-- what was handed over so far is a run of the machine
use Rattle.visibility.proofs.CommonNames.{◌≡◌, ◌+◌, ◌++◌, map, length, vec_len, vec_capacity, into_iter_items, into_iter_len, Ran, Users, asked, reply_given, Wanting}
use Rattle.visibility.proofs.runs.run_into.Given as goal

abbrev pub invariant-loop-user : goal.invariant-loop-user
invariant-loop-user g l = record {
  split : l.yielded ++ into_iter_items l.user-iterator ≡ l.fn.steps.items;
  left : into_iter_len l.user-iterator ≡ length (into_iter_items l.user-iterator);
  users : Users (map asked l.yielded);
  ran : Ran (map asked l.yielded) (map reply_given l.replies.items) l.fn.host l.host;
  wanting : Wanting (map asked l.yielded) (map reply_given l.replies.items) l.fn.host;
  room : vec_capacity l.replies ≡ vec_len l.replies + length (into_iter_items l.user-iterator);
}
