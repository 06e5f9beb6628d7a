use Rattle.std.proofs.Common.{ap, sym, ◌∙◌}
use Rattle.tracehost_c.proofs.tracehost_line.Goals as goal

pub returns-clause-call : goal.returns-clause-call
returns-clause-call c =
    let old = ap (λ h. h.held.session) (sym c.replace-taken.ensures.value) ∙ c.session-session.ensures in
    rw (old, c.of.ensures, ← c.deref_mut.ensures.value) c.put_line-code.ensures.call
