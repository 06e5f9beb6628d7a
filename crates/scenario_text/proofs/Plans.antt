-- The scenario, or the first fault, of what was read of a scenario's members.
use Rattle.scenario_text.proofs.CommonNames.{◌≡◌, ◌<◌, ◌≤◌, ℕ, ℤ, Bool, false, length, IfOk, List, None, Result, Ok, Err, arith, nat_tests, bytes_eq-Decides, bytes_eq, members_among-put, Data, Items}
use Rattle.scenario_text.proofs.CommonNames.{Members, object, put, as_object, get_member-put, get_member-put_other, Settings, UserStep, Fault, BadShape, TooManySteps, Memory, KeyError, Listed, atom_of}
use Rattle.scenario_text.proofs.CommonNames.{integer, items_of, AreRead, StepsAre, taken, Plan, max_steps, Yields, head_settings, head_of, plan_of}
use Rattle.std.proofs.Common.{codes}

abbrev steps_key : List ℕ
steps_key = codes "steps"

abbrev kill_key : List ℕ
kill_key = codes "kill_on_debugger_exit"

-- a fault, unless it is that memory ran out
pub yields_fault : {X : Type 0} (view : X → Plan) (e : Fault) (plan : Result Plan Fault) → plan ≡ Err e → Yields view (Err e) plan
yields_fault view Memory plan is = tt
yields_fault view e plan is = is

-- the fault of the bounded steps
pub steps_fail : (l : Listed) (steps : Result Listed KeyError) (kill : Result ℤ KeyError) (is_alone : Bool) (ms : Members) (settings : Settings) (r : Result (List UserStep) Fault) (e : Fault) → AreRead steps kill is_alone ms
    → steps ≡ Ok l → head_settings kill is_alone ≡ Ok settings → (max_steps < l.count → r ≡ Err TooManySteps) → (l.count ≤ max_steps → r ≡ taken l) → r ≡ Err e → plan_of (object ms) ≡ Err e
unfolding plan_of head_of
steps_fail l steps kill is_alone ms settings r e h is good many few failed = grind (arith, nat_tests)

-- ---- one more member

ruleset puts = (get_member-put, get_member-put_other, members_among-put, bytes_eq-Decides)

pub with_steps : (steps before : Result Listed KeyError) (kill : Result ℤ KeyError) (is_alone : Bool) (ms : Members) (d : Data) → AreRead before kill is_alone ms → StepsAre steps (items_of d)
    → AreRead steps kill is_alone (put steps_key d ms)
with_steps steps before kill is_alone ms d h are = record { steps_are = rw get_member-put are; kill_is = grind (arith, puts); alone_is = grind (arith, puts) }

pub with_kill : (steps : Result Listed KeyError) (before kill : Result ℤ KeyError) (is_alone : Bool) (ms : Members) (d : Data) → AreRead steps before is_alone ms → kill ≡ integer (atom_of d)
    → AreRead steps kill is_alone (put kill_key d ms)
with_kill steps before kill is_alone ms d h is = record { steps_are = grind (arith, puts); kill_is = grind (arith, puts); alone_is = grind (arith, puts) }

pub with_other : (steps : Result Listed KeyError) (kill : Result ℤ KeyError) (is_alone : Bool) (ms : Members) (k : List ℕ) (d : Data) → AreRead steps kill is_alone ms
    → bytes_eq k steps_key ≡ false → bytes_eq k kill_key ≡ false → AreRead steps kill false (put k d ms)
with_other steps kill is_alone ms k d h no_steps no_kill = record { steps_are = grind (arith, puts); kill_is = grind (arith, puts); alone_is = grind (arith, puts) }

pub short_list : (steps : Result Listed KeyError) (r : Result Items KeyError) → StepsAre steps r → IfOk steps (λ l. length l.steps ≤ l.count)
short_list (Err e) r h = tt
short_list (Ok l) r h = h.2.short

-- a value that is no object is no scenario
pub no_object : (d : Data) → as_object d ≡ None → plan_of d ≡ Err (BadShape 0)
unfolding plan_of head_of
no_object d e = grind arith
