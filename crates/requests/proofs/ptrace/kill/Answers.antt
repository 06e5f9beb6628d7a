use Rattle.requests.proofs.CommonNames.{refl, ap, ◌∙◌, resume}
use Rattle.requests.proofs.ptrace.kill.Goals as goal

pub returns : goal.returns
returns c = record {
  rows = c.resume_process.ensures.rows ∙ ap (λ how. resume c.args.settings how c.args.process.now.pid c.args.tables.now.rows) c.with_signal.ensures;
  reply = refl;
}
