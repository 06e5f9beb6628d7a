-- The equality of views decides whether they are identical.
use Rattle.requests.specs.CommonNames.{Bool, true, List, Option, ℕ, LwpData, Mode, Due, ProcData, State, Rule}
use Rattle.std.specs.Prelude.{◌≡◌, ◌&&◌, nat_eq}
use Rattle.std.specs.Option.{option_eq}
use Rattle.std.specs.Cmp.{unsigned_Decides, booleans_Decides, first_so, second_so}
use Rattle.std.specs.Cmp.Lexicographic.{pointwise, pointwise_decides}
use Rattle.std.specs.Bool.{Decides}
use Rattle.std.proofs.Common.{rules, subst}
use Rattle.lwp_table.specs.contracts.ModePartialEq.TheImpl as modes
use Rattle.lwp_table.specs.contracts.DuePartialEq.TheImpl as dues
use Rattle.proc_table.specs.contracts.StatePartialEq.TheImpl as states
use Rattle.requests.specs.Machine.{Installed}
use Rattle.requests.specs.View.{View}
use Rattle.visibility.specs.Same.{same_process, same_lwp, same_rule, same_installed, same_view}

-- two tests that decide, together
both : {P Q : Type 0} (s t : Bool) → Decides s P → Decides t Q → Decides (s && t) (P × Q)
both s t p q = (λ is. (p.0 (first_so s t is), q.0 (second_so s t is)), λ e. λ i. p.1 e.0 i && q.1 e.1 i)

decides : {A : Type 0} (test : A → A → Bool) → ((a b : A) → test a b ≡ true → a ≡ b) → ((a : A) → test a a ≡ true) → (a b : A) → Decides (test a b) (a ≡ b)
decides test same itself a b = (same a b, λ e. subst (λ c. test a c ≡ true) e (itself a))

tracer : (a b : Option ℕ) → Decides (option_eq nat_eq a b) (a ≡ b)
tracer = decides _ (λ a b is. search rules) (λ a. search rules)

state : (a b : State) → Decides ((states.eq-value).it a b) (a ≡ b)
state = decides _ (λ a b is. search rules) (λ a. search rules)

mode : (a b : Mode) → Decides ((modes.eq-value).it a b) (a ≡ b)
mode = decides _ (λ a b is. search rules) (λ a. search rules)

due : (a b : Due) → Decides ((dues.eq-value).it a b) (a ≡ b)
due = decides _ (λ a b is. search rules) (λ a. search rules)

rule : (a b : Rule) → Decides (same_rule a b) (a ≡ b)
rule = decides _ (λ a b is. search rules) (λ a. search rules)

process : (p q : ProcData) → Decides (same_process p q) (p ≡ q)
process p q =
    let h = both _ _ (unsigned_Decides p.pid q.pid) (both _ _ (unsigned_Decides p.uid q.uid) (both _ _ (unsigned_Decides p.parent q.parent) (both _ _ (tracer p.tracer q.tracer)
    (both _ _ (state p.state q.state) (both _ _ (booleans_Decides p.continued q.continued) (both _ _ (unsigned_Decides p.mask.0 q.mask.0)
    (both _ _ (both _ _ (unsigned_Decides p.dispositions.ignored q.dispositions.ignored) (unsigned_Decides p.dispositions.caught q.dispositions.caught))
    (unsigned_Decides p.pending q.pending)))))))) in
    (λ is. let e = h.0 is in search rules, λ e. h.1 (search rules))

lwp : (l k : LwpData) → Decides (same_lwp l k) (l ≡ k)
lwp l k =
    let h = both _ _ (unsigned_Decides l.tid k.tid) (both _ _ (unsigned_Decides l.pid k.pid) (both _ _ (mode l.mode k.mode) (both _ _ (booleans_Decides l.suspended k.suspended)
    (both _ _ (booleans_Decides l.stepping k.stepping) (both _ _ (unsigned_Decides l.blocked k.blocked) (both _ _ (unsigned_Decides l.pending k.pending) (both _ _ (due l.due k.due)
    (both _ _ (unsigned_Decides l.flags.0 k.flags.0) (both _ _ (unsigned_Decides l.child k.child) (unsigned_Decides l.code k.code)))))))))) in
    (λ is. let e = h.0 is in search rules, λ e. h.1 (search rules))

installed : (a b : Installed) → Decides (same_installed a b) (a ≡ b)
installed a b =
    let h = both _ _ (unsigned_Decides a.debugger b.debugger) (pointwise_decides rule a.policy b.policy) in
    (λ is. let e = h.0 is in search rules, λ e. h.1 (search rules))

pub same_handlers : (a b : List Installed) → Decides (pointwise same_installed a b) (a ≡ b)
same_handlers = pointwise_decides installed

pub view_decides : (v w : View) → Decides (same_view v w) (v ≡ w)
view_decides v w =
    let h = both _ _ (pointwise_decides process v.processes w.processes) (both _ _ (pointwise_decides lwp v.lwps w.lwps) (both _ _ (unsigned_Decides v.pid_cursor w.pid_cursor)
    (both _ _ (unsigned_Decides v.tid_cursor w.tid_cursor) (both _ _ (same_handlers v.installed w.installed)
    (booleans_Decides v.settings.kill_on_debugger_exit w.settings.kill_on_debugger_exit))))) in
    (λ is. let e = h.0 is in search rules, λ e. h.1 (search rules))
