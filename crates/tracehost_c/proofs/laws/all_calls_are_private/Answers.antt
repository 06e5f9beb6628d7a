use Rattle.std.proofs.Common.{None}
use Rattle.{requests.specs.Machine.empty, visibility.proofs.Apart.users_are_apart_at_first}
use Rattle.tracehost_c.{specs.Calls.opened, proofs.AllCallLemmas.{all_kept, none_fit}}
use Rattle.tracehost_c.proofs.laws.all_calls_are_private.Goals as goal

pub returns : goal.returns
returns c cs codes now made h s is =
    let led = all_kept cs codes (λ h. None) now (λ h. None) made none_fit h s is in
    let history = led.0 in (
      history,
      led.1,
      record {
        answers = led.2.0;
        answered = led.2.1;
        own = c.calls_are_private.ensures history.calls (opened history.settings) s led.2.0 (users_are_apart_at_first history.settings) led.2.1;
      },
    )
