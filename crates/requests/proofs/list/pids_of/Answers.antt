use Rattle.requests.proofs.CommonNames.{◌≡◌, ℕ, arith, sym, ◌∙◌, Option, Some, None, ◌==◌, nat_tests, ProcData}
use Rattle.std.specs.Option.{option_map}
use Rattle.proc_table.specs.Walks.{next_of}
use Rattle.requests.proofs.ProcessesAbove.{listed_next, listed_all, next_over}
use Rattle.requests.proofs.list.pids_of.Goals as goal

-- the row with the number that the walk finds
row_of : (o : Option ProcData) (n : ℕ) → option_map (λ p. p.pid) o ≡ Some n → (p : ProcData) × (o ≡ Some p) × (p.pid ≡ n)
row_of o n is = grind (arith, nat_tests)

none_of : (o : Option ProcData) → option_map (λ p. p.pid) o ≡ None → o ≡ None
none_of o is = grind (arith, nat_tests)

pub loop-pid-smaller : goal.loop-pid-smaller
loop-pid-smaller c =
    let at = row_of (next_of c.args.user c.loop-pid.after c.args.tables.now.rows.processes) c.in-Some.pid (sym c.next_pid.ensures.next ∙ c.in-Some.is) in
    grind (arith, nat_tests, next_over (λ p. p.uid == c.args.user) c.loop-pid.after c.args.tables.now.rows.processes at.0 at.1, at.2)

pub loop-pid-preserved : goal.loop-pid-preserved
loop-pid-preserved c =
    let at = row_of (next_of c.args.user c.loop-pid.after c.args.tables.now.rows.processes) c.in-Some.pid (sym c.next_pid.ensures.next ∙ c.in-Some.is) in
    record {
      below = c.get-after.ensures.below;
      listed = rw (c.in_ok-push.ensures.items, c.get-after.ensures.number, ← at.2) (listed_next (λ p. p.uid == c.args.user) c.loop-pid.after c.args.tables.now.rows.processes at.0 c.loop-pid.pids.items _ c.next_pid.ensures.kept.rising at.1 c.loop-pid.invariant.listed);
    }

pub returns : goal.returns
returns c =
    let at = none_of (next_of c.args.user c.loop-pid.after c.args.tables.now.rows.processes) (sym c.next_pid.ensures.next ∙ c.in_default.is) in
    c.of.ensures ∙ listed_all (λ p. p.uid == c.args.user) c.loop-pid.after c.args.tables.now.rows.processes c.loop-pid.pids.items _ at c.loop-pid.invariant.listed
