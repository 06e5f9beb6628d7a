use Rattle.requests.proofs.CommonNames.{◌≡◌, false, ◌&&◌, leb, is_some, refl, rules, nat_tests, asks, PTRACE_LWP, LwpData, ProcData, Rows, remove_lwp, lwp_count, remove_lwp-is, Settings, exits_lwp}
use Rattle.requests.proofs.HasLwpAfterChange.{acting_has}
use Rattle.requests.proofs.leave.exit_lwp.Goals as goal

gone : (settings : Settings) (p : ProcData) (l : LwpData) (rows : Rows) → leb (lwp_count p.pid rows) 1 ≡ false → (is_some p.tracer && asks p.mask PTRACE_LWP) ≡ false
    → (exits_lwp settings p l rows).rows ≡ remove_lwp l.tid rows
gone settings p l rows more quiet = rw (more, quiet) refl

pub stop_with-requires : goal.stop_with-requires
stop_with-requires c = acting_has c.args.p.now c.args.l.now c.args.tables.now.rows c.requires.acting

pub returns-else-is_asked : goal.returns-else-is_asked
returns-else-is_asked c = record { rows = search (rules, nat_tests, remove_lwp-is, gone); reply = search rules }
