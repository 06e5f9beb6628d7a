-- The laws of the equality of views, from those of the parts' own `==`.
use Rattle.std.specs.Cmp.{IsEquivalence}
use Rattle.std.proofs.lemmas.Cmp.{and_equiv, lists_equiv, nat_eq_equiv, on_equiv}
use Rattle.lwp_table.specs.contracts.LwpDataEq.TheImpl.Laws as lwps
use Rattle.proc_table.specs.contracts.ProcDataEq.TheImpl.Laws as processes
use Rattle.stop_handlers.specs.contracts.RuleEq.TheImpl.Laws as policies
use Rattle.step_types.specs.contracts.SettingsEq.TheImpl.Laws as settings
use Rattle.requests.specs.Machine.{Installed}
use Rattle.requests.specs.View.{View}
use Rattle.visibility.specs.Same.{same_installed, same_view}

pub installed_equiv : IsEquivalence same_installed
installed_equiv = and_equiv (on_equiv (λ (i : Installed). i.debugger) nat_eq_equiv) (on_equiv (λ (i : Installed). i.policy) (lists_equiv policies.laws-law))

pub views_equiv : IsEquivalence same_view
views_equiv =
    and_equiv (on_equiv (λ (v : View). v.processes) (lists_equiv processes.laws-law))
    (and_equiv (on_equiv (λ (v : View). v.lwps) (lists_equiv lwps.laws-law))
    (and_equiv (on_equiv (λ (v : View). v.pid_cursor) nat_eq_equiv)
    (and_equiv (on_equiv (λ (v : View). v.tid_cursor) nat_eq_equiv)
    (and_equiv (on_equiv (λ (v : View). v.installed) (lists_equiv installed_equiv))
    (on_equiv (λ (v : View). v.settings) settings.laws-law)))))
