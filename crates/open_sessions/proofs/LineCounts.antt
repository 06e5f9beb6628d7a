-- A step's line has few tokens.
use Rattle.std.proofs.Common.{◌≡◌, ℕ, suc, ◌+◌, ◌*◌, ◌≤◌, Bool, true, false, cond, List, [], ◌∷◌, ◌++◌, map, filter, length, length-append, bit_and, Option, Some, None, refl, arith}
use Rattle.std.specs.Prelude.{codes, ◌==◌}
use Rattle.json.specs.{Tree.{json_tokens, items_tokens, members_tokens}, Value.items_of}
use Rattle.signals.specs.Sets.{has, members, numbers}
use Rattle.event_masks.specs.{Names.{event_table, stop_table, names_of}}
use Rattle.event_masks.specs.declared.Call.TheVariants as call
use Rattle.stop_handlers.specs.declared.{Rule.Rule}
use Rattle.step_types.specs.{Plain.PlainStep, declared.{Act.Act, Request.Request}}
use Rattle.step_types.specs.declared.Act.TheVariants as act
use Rattle.step_types.specs.declared.Request.TheVariants as request
use Rattle.step_types.specs.declared.step.Step.TheVariants as plain
use Rattle.reply_json.specs.Objects.{Member, members_of, natural, nonzero_member, numbers_of, object_of, strings_of}
use Rattle.open_sessions.{specs.{Flat.passed, StepLines.{HasLine, act_keys, caller_key, code_key, decision_keys, flags_key, op_keys, option_names, options_key, request_keys, rule_keys, rules_key, signal_key, step_keys}}, proofs.LineSteps.keys_of}

-- the tokens of members
abbrev count : List Member → ℕ
count [] = 0
count (m ∷ ms) = suc (length (json_tokens m.1)) + count ms

count_members : (ms : List Member) → length (members_tokens (members_of ms)) ≡ suc (count ms)
count_members [] = refl
count_members (m ∷ ms) = omega (arith, count_members ms, length-append (json_tokens m.1) (members_tokens (members_of ms)))

count-append : (ms ns : List Member) → count (ms ++ ns) ≡ count ms + count ns
count-append [] ns = omega arith
count-append (m ∷ ms) ns = omega (arith, count-append ms ns)

-- ---- arrays

strings_count : (names : List (List ℕ)) → length (json_tokens (strings_of names)) ≡ length names + 2
strings_count [] = omega arith
strings_count (name ∷ names) = omega (arith, strings_count names)

numbers_count : (ns : List ℕ) → length (json_tokens (numbers_of ns)) ≡ length ns + 2
numbers_count [] = omega arith
numbers_count (n ∷ ns) = omega (arith, numbers_count ns)

length_filter : {X : Type 0} (test : X → Bool) (xs : List X) → length (filter test xs) ≤ length xs
length_filter test [] = omega arith
length_filter test (x ∷ xs) = go (test x) (length_filter test xs)
  where
    go : (b : Bool) → length (filter test xs) ≤ length xs → length (cond b (x ∷ filter test xs) (filter test xs)) ≤ suc (length xs)
    go true rest = omega arith
    go false rest = omega arith

length_map : {X Y : Type 0} (f : X → Y) (xs : List X) → length (map f xs) ≡ length xs
length_map f [] = refl
length_map f (x ∷ xs) = omega (arith, length_map f xs)

names_count : (table : List (List ℕ × ℕ)) (bits : ℕ) → length (json_tokens (strings_of (names_of table bits))) ≤ length table + 2
names_count table bits =
    let test = λ (row : List ℕ × ℕ). bit_and bits row.1 == row.1 in
    omega (arith, strings_count (names_of table bits), length_map (λ (row : List ℕ × ℕ). row.0) (filter test table), length_filter test table)

set_count : (set : ℕ) → length (json_tokens (numbers_of (members set))) ≤ 33
unfolding members
set_count set = omega (arith, numbers_count (filter (has set) numbers), length_filter (has set) numbers)

-- ---- optional keys

nonzero_count : (name : List ℕ) (n : ℕ) → count (nonzero_member name n) ≤ 2
nonzero_count name n = go (n == 0)
  where
    go : (b : Bool) → count (cond b [] ((name, natural n) ∷ [])) ≤ 2
    go true = omega arith
    go false = omega arith

flags_count : (flags : ℕ) → count (flags_key flags) ≤ 12
unfolding flags_key
flags_count flags = go (flags == 0)
  where
    go : (b : Bool) → count (cond b [] ((codes "flags", strings_of (names_of stop_table flags)) ∷ [])) ≤ 12
    go true = omega arith
    go false = omega (arith, names_count stop_table flags)

signal_count : (signal : Option ℕ) → count (signal_key signal) ≤ 2
unfolding signal_key
signal_count None = omega arith
signal_count (Some s) = omega arith

rule_count : (r : Rule) → length (json_tokens (object_of (rule_keys r))) ≤ 20
unfolding rule_keys decision_keys
rule_count r =
    omega (
      arith,
      count_members (rule_keys r),
      count-append (signal_key r.signal) (flags_key r.flags.0 ++ decision_keys r.decision),
      count-append (flags_key r.flags.0) (decision_keys r.decision),
      signal_count r.signal,
      flags_count r.flags.0,
      nonzero_count (codes "pass") (passed r.decision),
    )

policy_count : (policy : List Rule) → length (items_tokens (items_of (map (λ r. object_of (rule_keys r)) policy))) ≤ 20 * length policy + 1
policy_count [] = omega arith
policy_count (r ∷ rs) =
    omega (arith, policy_count rs, rule_count r, length-append (json_tokens (object_of (rule_keys r))) (items_tokens (items_of (map (λ r. object_of (rule_keys r)) rs))))

options_count : (untraced continued : Bool) → count (options_key (record { untraced = untraced; continued = continued })) ≤ 5
unfolding options_key option_names
options_count false false = omega arith
options_count true false = omega arith
options_count false true = omega arith
options_count true true = omega arith

-- ---- steps

act_count : (a : Act) → count (act_keys a) ≤ 40
unfolding act_keys code_key
act_count act.Compute = omega arith
act_count act.Leave = omega arith
act_count (act.Raise s) = omega arith
act_count (act.Block set) = omega (arith, set_count set)
act_count (act.Enter (call.Exit code)) = omega arith
act_count (act.Enter (call.Other code)) = omega arith
act_count (act.Enter c) = omega arith

request_count : (r : Request) (target arg : ℕ) → count (request_keys r target arg) ≤ 20
unfolding request_keys
request_count request.TraceMe target arg = omega arith
request_count request.SetEventMask target mask = omega (arith, names_count event_table mask)
request_count r target arg = omega (arith, nonzero_count (codes "data") arg)

keys_count : (u : ℕ) (s : PlainStep) → HasLine s → count (keys_of u s) ≤ 340
unfolding step_keys caller_key op_keys rules_key
keys_count u plain.Spawn h = omega arith
keys_count u (plain.List c) h = omega arith
keys_count u (plain.Handle c) h = omega arith
keys_count u (plain.Kill c w s) h = omega arith
keys_count u (plain.Sigaction c s d) h = omega arith
keys_count u (plain.Wait4 c w o) h = omega (arith, options_count o.untraced o.continued)
keys_count u (plain.Install c policy) h = omega (arith, policy_count policy, h.1)
keys_count u (plain.Ptrace c r target arg) h = omega (arith, request_count r target arg)
keys_count u (plain.Turn lwp a) h = omega (arith, act_count a)

pub line_count : (u : ℕ) (s : PlainStep) → HasLine s → length (json_tokens (object_of (keys_of u s))) ≤ 342
line_count u s h = omega (arith, count_members (keys_of u s), keys_count u s h)
