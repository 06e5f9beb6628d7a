-- The equality of views.
use Rattle.std.specs.Prelude.{◌&&◌, ◌==◌}
use Rattle.requests.specs.CommonNames.{Bool, LwpData, ProcData, Rule, Settings}
use Rattle.std.specs.Cmp.Lexicographic.{pointwise}
use Rattle.lwp_table.specs.contracts.LwpDataPartialEq.TheImpl as lwps
use Rattle.proc_table.specs.contracts.ProcDataPartialEq.TheImpl as processes
use Rattle.stop_handlers.specs.contracts.RulePartialEq.TheImpl as policies
use Rattle.step_types.specs.contracts.SettingsPartialEq.TheImpl as settings
use Rattle.requests.specs.Machine.{Installed}
use Rattle.requests.specs.View.{View}

-- Rows, rules and settings: their own `==`
abbrev pub same_process : ProcData → ProcData → Bool
same_process p q = (processes.eq-value).it p q

abbrev pub same_lwp : LwpData → LwpData → Bool
same_lwp l k = (lwps.eq-value).it l k

abbrev pub same_rule : Rule → Rule → Bool
same_rule r s = (policies.eq-value).it r s

abbrev pub same_settings : Settings → Settings → Bool
same_settings a b = (settings.eq-value).it a b

abbrev pub same_installed : Installed → Installed → Bool
same_installed i j = (i.debugger == j.debugger) && pointwise same_rule i.policy j.policy

abbrev pub same_view : View → View → Bool
same_view v w = pointwise same_process v.processes w.processes && (pointwise same_lwp v.lwps w.lwps && ((v.pid_cursor == w.pid_cursor) && ((v.tid_cursor == w.tid_cursor)
    && (pointwise same_installed v.installed w.installed && same_settings v.settings w.settings))))
