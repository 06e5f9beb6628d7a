use Rattle.requests.proofs.StoppedTracee.{gives_as, given}
use Rattle.requests.proofs.CommonNames.{ap, with_signal, resumes, Stepping}
use Rattle.requests.proofs.ptrace.command.Goals as goal

pub returns-in-Syscall : goal.returns-in-Syscall
returns-in-Syscall c =
    let rows = c.args.tables.now.rows in
    let same = ap (λ adds. with_signal c.args.arg (resumes c.args.settings adds Stepping.Nobody c.args.arg c.args.process.now rows) rows) c.with-both.ensures in
    rw c.in-Syscall.is (given (gives_as same c.resume_with-in-Syscall.ensures))
