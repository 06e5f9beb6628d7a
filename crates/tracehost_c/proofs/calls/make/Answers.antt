use Rattle.{std.proofs.Common.{ap, sym, refl, ◌∙◌, rules}, tracehost_c.specs.Calls.{no_step, in_session}}
use Rattle.tracehost_c.proofs.calls.make.Goals as goal

pub returns-in_default : goal.returns-in_default
returns-in_default c = no_step refl (search rules) (search rules) refl refl

pub returns : goal.returns
returns c =
    in_session c.session-session.result.value c.make_step-code.new.session c.args.step.now c.in-Ok.ensures.0 refl
    (ap (λ h. h.held.session) (sym c.replace-taken.ensures.value) ∙ c.session-session.ensures) c.of.ensures (rw (← c.in-Ok.ensures.1, ← c.deref_mut.ensures.value) c.make_step-code.ensures)
