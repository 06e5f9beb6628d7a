use Rattle.std.proofs.Common.{◌≡◌, ◌≤◌, ◌++◌, map, length}
use Rattle.lwp_table.specs.Lwps.{lwps_of}
use Rattle.lwpinfo.proofs.requests.lwp_list.Given as goal

abbrev pub invariant-loop-lwp : goal.invariant-loop-lwp
invariant-loop-lwp l = record {
  few : length l.numbers.items ≤ l.count;
  rest : l.numbers.items ++ map (λ k. k.tid) l.lwp-iterator ≡ map (λ k. k.tid) (lwps_of l.fn.pid l.tables.rows.lwps);
}
