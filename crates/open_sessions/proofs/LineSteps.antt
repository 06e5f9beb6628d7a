-- The step that the values at a line's keys are.
use Rattle.serde_json.specs.Data as datum
use Rattle.std.proofs.Common.{◌≡◌, ℕ, ◌<◌, ◌≤◌, ◌^◌, Bool, true, false, cond, List, [], ◌∷◌, map, length, Some, refl, sym, ◌∙◌, arith}
use Rattle.std.{specs.Prelude.{ℤ, pos, negsuc, Ok, codes, ◌&&◌, ◌==◌}, proofs.lemmas.Bool.{Decides.nat_tests, and_parts, eqb-true, true≢false}}
use Rattle.pid_blocks.specs.Users.{IsUser}
use Rattle.signals.specs.{Sets.members, Dispositions.{disposition_name, disposition_named}, declared.{Disposition.Disposition, Disposition.TheVariants.{Default, Ignore, Catch}}}
use Rattle.event_masks.specs.{Names.event_table, declared.Call.Call}
use Rattle.event_masks.specs.declared.Call.TheVariants as call
use Rattle.stop_handlers.specs.declared.Rule.{Rule}
use Rattle.step_types.specs.{Plain.{PlainStep, UserStep}, Names.{request_name, request_named}, declared.{Act.Act, Request.Request}}
use Rattle.step_types.specs.declared.Act.TheVariants as act
use Rattle.step_types.specs.declared.Request.TheVariants as request
use Rattle.serde_json.specs.{Data.{Data, Members}, Find.of_integer}
use Rattle.scenario_text.specs.{Fields.{◌>>=◌, atom_of, integer as integer_of, number_within, word, name_in, set_of}, Steps.{asked_of, fields_in, request_of, rest_of, step_from, step_of, user_in}}
use Rattle.step_types.specs.declared.step.Step.TheVariants as plain
use Rattle.json.specs.Json.{string}
use Rattle.reply_json.specs.Objects.{Member, natural, nonzero_member, numbers_of, strings_of}
use Rattle.open_sessions.{specs.StepLines.{AllRules, HasLine, IsAct, act_keys, as_line, code_key, caller_key, op_keys, options_key, option_names, policy_of, request_keys, rules_key, step_keys}, proofs.LineTexts.{AllMembers, AllRead, IsRead, is_name, items_in, object_in, puts, natural_read, integer_read, string_read, array_read}}
use Rattle.open_sessions.proofs.{LineRules.{policy_data, policy_is, policy_read}, LineSets.{mask_of_names, names_data, names_read, set_data, set_of_numbers, set_read}}
use lib.Signed.{mag}

-- ---- the values of numbers and names

abbrev number : ℕ → Data
number n = datum.number (datum.unsigned n)

word_of : (n : ℕ) → n < 2 ^ 32 → word (atom_of (number n)) ≡ Ok n
word_of n small = grind (arith, nat_tests)

user_of : (u : ℕ) → IsUser u → user_in (atom_of (number u)) ≡ Ok u
user_of u user = grind (arith, nat_tests)

whole_of : (z : ℤ) → mag z < 2 ^ 63 → integer_of (atom_of (datum.number (of_integer z))) ≡ Ok z
whole_of (pos n) small = grind (arith, nat_tests)
whole_of (negsuc n) small = refl

action_of : (d : Disposition) → name_in disposition_named (atom_of (datum.string (disposition_name d))) ≡ Ok d
action_of Default = refl
action_of Ignore = refl
action_of Catch = refl

action_ascii : (d : Disposition) → is_name (disposition_name d) ≡ true
action_ascii Default = refl
action_ascii Ignore = refl
action_ascii Catch = refl

byte_of : (n : ℕ) → n ≤ 255 → number_within 0 255 (atom_of (number n)) ≡ Ok n
byte_of n small = grind (arith, nat_tests)

-- ---- requests

request_is : (r : Request) → request_named (request_name r) ≡ Some r
request_is request.TraceMe = refl
request_is request.Attach = refl
request_is request.Continue = refl
request_is request.Step = refl
request_is request.ToSce = refl
request_is request.ToScx = refl
request_is request.Syscall = refl
request_is request.Detach = refl
request_is request.Kill = refl
request_is request.Suspend = refl
request_is request.Resume = refl
request_is request.SetEventMask = refl
request_is request.GetEventMask = refl
request_is request.FollowFork = refl
request_is request.LwpEvents = refl
request_is request.LwpInfo = refl
request_is request.GetNumLwps = refl
request_is request.GetLwpList = refl

request_ascii : (r : Request) → is_name (request_name r) ≡ true
request_ascii request.TraceMe = refl
request_ascii request.Attach = refl
request_ascii request.Continue = refl
request_ascii request.Step = refl
request_ascii request.ToSce = refl
request_ascii request.ToScx = refl
request_ascii request.Syscall = refl
request_ascii request.Detach = refl
request_ascii request.Kill = refl
request_ascii request.Suspend = refl
request_ascii request.Resume = refl
request_ascii request.SetEventMask = refl
request_ascii request.GetEventMask = refl
request_ascii request.FollowFork = refl
request_ascii request.LwpEvents = refl
request_ascii request.LwpInfo = refl
request_ascii request.GetNumLwps = refl
request_ascii request.GetLwpList = refl

-- a request with a target and data
abbrev is_plain : Request → Bool
is_plain request.TraceMe = false
is_plain request.SetEventMask = false
is_plain r = true

keys_plain : (r : Request) (target arg : ℕ) → is_plain r ≡ true
    → request_keys r target arg ≡ (codes "request", string (request_name r)) ∷ (codes "target", natural target) ∷ nonzero_member (codes "data") arg
unfolding request_keys
keys_plain request.TraceMe target arg is = absurd (true≢false (sym is))
keys_plain request.SetEventMask target arg is = absurd (true≢false (sym is))
keys_plain r target arg is = refl

line_plain : (c : ℕ) (r : Request) (target arg : ℕ) → is_plain r ≡ true → as_line (plain.Ptrace c r target arg) ≡ plain.Ptrace c r target arg
line_plain c request.TraceMe target arg is = absurd (true≢false (sym is))
line_plain c r target arg is = refl

abbrev by_user : ℕ → PlainStep → UserStep
by_user u s = record { uid = u; step = s }

asked_plain : (u c : ℕ) (r : Request) (ms : Members) → is_plain r ≡ true
    → (asked_of c r (fields_in ms) >>= (λ s. Ok (by_user u s))) ≡ (request_of c r (fields_in ms) >>= (λ s. Ok (by_user u s)))
asked_plain u c request.TraceMe ms is = absurd (true≢false (sym is))
asked_plain u c request.SetEventMask ms is = absurd (true≢false (sym is))
asked_plain u c r ms is = refl

abbrev has_code : Call → Bool
has_code (call.Exit code) = true
has_code (call.Other code) = true
has_code c = false

abbrev strings_data : List (List ℕ) → Data
strings_data names = datum.array (items_in (map (λ text. datum.string text) names))

abbrev all_ascii : List (List ℕ) → Bool
all_ascii [] = true
all_ascii (name ∷ names) = is_name name && all_ascii names

all_strings : (names : List (List ℕ)) → all_ascii names ≡ true → AllRead 2 (map (λ text. string text) names) (map (λ text. datum.string text) names)
all_strings [] ascii = tt
all_strings (name ∷ names) ascii = let parts = and_parts _ _ ascii in (string_read 2 name parts.0, all_strings names parts.1)

strings_read : (names : List (List ℕ)) → all_ascii names ≡ true → IsRead 3 (strings_of names) (strings_data names)
strings_read names ascii = array_read 2 (map (λ text. string text) names) (map (λ text. datum.string text) names) (all_strings names ascii)

-- ---- from the line's keys to the step

-- the keys of a user's step
abbrev pub keys_of : ℕ → PlainStep → List Member
keys_of u s = (codes "user", natural u) ∷ step_keys s (policy_of s)

-- keys have values, which are a step
pub record KeysAre (keys : List Member) (a : UserStep) : Type 0 where
  pub values : List Data
  pub read : AllMembers 3 keys values
  pub is : step_of (object_in keys values) ≡ Ok a

-- the keys of a step's line are its step
abbrev pub Line : ℕ → PlainStep → Type 0
Line u s = KeysAre (keys_of u s) (record { uid = u; step = as_line s })

name_read : (s : List ℕ) → is_name s ≡ true → IsRead 3 (string s) (datum.string s)
name_read s ascii = string_read 3 s ascii

short_read : (n : ℕ) → n < 2 ^ 32 → IsRead 3 (natural n) (number n)
short_read n small = natural_read 3 n (omega arith)

module _ (u : ℕ) (user : IsUser u) where
  user_read : IsRead 3 (natural u) (number u)
  user_read = natural_read 3 u (omega arith)

  spawn_line : Line u plain.Spawn
  unfolding step_from rest_of step_keys caller_key op_keys
  spawn_line =
      let values = number u ∷ datum.string (codes "spawn") ∷ [] in
      record {
        values = values;
        read = (refl, user_read, (refl, name_read (codes "spawn") refl, tt));
        is = rw (user_of u user) refl;
      }

  module _ (c : ℕ) (small : c < 2 ^ 32) where
    list_line : Line u (plain.List c)
    unfolding step_from rest_of step_keys caller_key op_keys
    list_line =
        let values = number u ∷ datum.string (codes "list") ∷ number c ∷ [] in
        record {
          values = values;
          read = (refl, user_read, (refl, name_read (codes "list") refl, (refl, short_read c small, tt)));
          is = rw (user_of u user, word_of c small) refl;
        }

    handle_line : Line u (plain.Handle c)
    unfolding step_from rest_of step_keys caller_key op_keys
    handle_line =
        let values = number u ∷ datum.string (codes "handle") ∷ number c ∷ [] in
        record {
          values = values;
          read = (refl, user_read, (refl, name_read (codes "handle") refl, (refl, short_read c small, tt)));
          is = rw (user_of u user, word_of c small) refl;
        }

    kill_line : (w : ℤ) (s : ℕ) → mag w < 2 ^ 63 → s < 2 ^ 32 → Line u (plain.Kill c w s)
    unfolding step_from rest_of step_keys caller_key op_keys
    kill_line w s wide little =
        let values = number u ∷ datum.string (codes "kill") ∷ number c ∷ datum.number (of_integer w) ∷ number s ∷ [] in
        record {
          values = values;
          read = (refl, user_read, (refl, name_read (codes "kill") refl, (refl, short_read c small, (refl, integer_read 3 w wide, (refl, short_read s little, tt)))));
          is = rw (user_of u user, word_of c small, whole_of w wide, word_of s little) refl;
        }

    sigaction_line : (s : ℕ) (d : Disposition) → s < 2 ^ 32 → Line u (plain.Sigaction c s d)
    unfolding step_from rest_of step_keys caller_key op_keys
    sigaction_line s d little =
        let values = number u ∷ datum.string (codes "sigaction") ∷ number c ∷ number s ∷ datum.string (disposition_name d) ∷ [] in
        record {
          values = values;
          read = (refl, user_read, (refl, name_read (codes "sigaction") refl, (refl, short_read c small, (refl, short_read s little, (refl, name_read (disposition_name d) (action_ascii d), tt)))));
          is = rw (user_of u user, word_of c small, word_of s little, action_of d) refl;
        }

    -- ---- wait4(2)

    wait4_line : (w : ℤ) → mag w < 2 ^ 63 → (untraced continued : Bool) → Line u (plain.Wait4 c w (record { untraced = untraced; continued = continued }))
    unfolding step_from rest_of step_keys caller_key op_keys options_key option_names
    wait4_line w wide false false =
        let values = number u ∷ datum.string (codes "wait4") ∷ number c ∷ datum.number (of_integer w) ∷ [] in
        record {
          values = values;
          read = (refl, user_read, (refl, name_read (codes "wait4") refl, (refl, short_read c small, (refl, integer_read 3 w wide, tt))));
          is = rw (user_of u user, word_of c small, whole_of w wide) refl;
        }
    wait4_line w wide true false =
        let names = codes "WUNTRACED" ∷ [] in
        let values = number u ∷ datum.string (codes "wait4") ∷ number c ∷ datum.number (of_integer w) ∷ strings_data names ∷ [] in
        record {
          values = values;
          read = (refl, user_read, (refl, name_read (codes "wait4") refl, (refl, short_read c small, (refl, integer_read 3 w wide, (refl, strings_read names refl, tt)))));
          is = rw (user_of u user, word_of c small, whole_of w wide) refl;
        }
    wait4_line w wide false true =
        let names = codes "WCONTINUED" ∷ [] in
        let values = number u ∷ datum.string (codes "wait4") ∷ number c ∷ datum.number (of_integer w) ∷ strings_data names ∷ [] in
        record {
          values = values;
          read = (refl, user_read, (refl, name_read (codes "wait4") refl, (refl, short_read c small, (refl, integer_read 3 w wide, (refl, strings_read names refl, tt)))));
          is = rw (user_of u user, word_of c small, whole_of w wide) refl;
        }
    wait4_line w wide true true =
        let names = codes "WUNTRACED" ∷ codes "WCONTINUED" ∷ [] in
        let values = number u ∷ datum.string (codes "wait4") ∷ number c ∷ datum.number (of_integer w) ∷ strings_data names ∷ [] in
        record {
          values = values;
          read = (refl, user_read, (refl, name_read (codes "wait4") refl, (refl, short_read c small, (refl, integer_read 3 w wide, (refl, strings_read names refl, tt)))));
          is = rw (user_of u user, word_of c small, whole_of w wide) refl;
        }

    -- ---- installs

    install_line : (policy : List Rule) → length policy ≤ 16 → AllRules policy → Line u (plain.Install c policy)
    unfolding step_from rest_of step_keys caller_key op_keys rules_key
    install_line policy few all =
        let values = number u ∷ datum.string (codes "install") ∷ number c ∷ policy_data policy ∷ [] in
        record {
          values = values;
          read = (refl, user_read, (refl, name_read (codes "install") refl, (refl, short_read c small, (refl, policy_read policy all, tt))));
          is = rw (user_of u user, word_of c small, policy_is policy few all) refl;
        }

    -- ---- ptrace(2)

    trace_me_line : (target arg : ℕ) → Line u (plain.Ptrace c request.TraceMe target arg)
    unfolding step_from rest_of step_keys caller_key op_keys request_keys
    trace_me_line target arg =
        let values = number u ∷ datum.string (codes "ptrace") ∷ number c ∷ datum.string (codes "PT_TRACE_ME") ∷ [] in
        record {
          values = values;
          read = (refl, user_read, (refl, name_read (codes "ptrace") refl, (refl, short_read c small, (refl, name_read (codes "PT_TRACE_ME") refl, tt))));
          is = rw (user_of u user, word_of c small) refl;
        }

    mask_line : (target mask : ℕ) → target < 2 ^ 32 → mask < 64 → Line u (plain.Ptrace c request.SetEventMask target mask)
    unfolding step_from rest_of step_keys caller_key op_keys request_keys
    mask_line target mask little known =
        let values = number u ∷ datum.string (codes "ptrace") ∷ number c ∷ datum.string (codes "PT_SET_EVENT_MASK") ∷ number target ∷ names_data event_table mask ∷ [] in
        record {
          values = values;
          read = (refl, user_read, (refl, name_read (codes "ptrace") refl, (refl, short_read c small, (refl, name_read (codes "PT_SET_EVENT_MASK") refl, (refl, short_read target little, (refl, names_read 2 event_table mask refl, tt))))));
          is = rw (user_of u user, word_of c small, word_of target little, mask_of_names mask known) refl;
        }

    -- ---- requests with a target and data

    plain_by : (r : Request) (target arg : ℕ) (zero : Bool) → is_plain r ≡ true → target < 2 ^ 32 → arg < 2 ^ 32 → (arg == 0) ≡ zero
        → KeysAre ((codes "user", natural u) ∷ (codes "op", string (codes "ptrace")) ∷ (codes "caller", natural c) ∷ (codes "request", string (request_name r)) ∷ (codes "target", natural target) ∷ cond zero [] ((codes "data", natural arg) ∷ []))
        (record { uid = u; step = plain.Ptrace c r target arg })
    unfolding step_from rest_of request_of
    plain_by r target arg true plain little tiny e =
        let values = number u ∷ datum.string (codes "ptrace") ∷ number c ∷ datum.string (request_name r) ∷ number target ∷ [] in
        let keys : List Member = (codes "user", natural u) ∷ (codes "op", string (codes "ptrace")) ∷ (codes "caller", natural c) ∷ (codes "request", string (request_name r)) ∷ (codes "target", natural target) ∷ [] in
        let ms = puts keys values datum.no_members in
        let first : step_of (object_in keys values) ≡ (asked_of c r (fields_in ms) >>= (λ s. Ok (by_user u s))) = rw (user_of u user, word_of c small, request_is r) refl in
        record {
          values = values;
          read = (refl, user_read, (refl, name_read (codes "ptrace") refl, (refl, short_read c small, (refl, name_read (request_name r) (request_ascii r), (refl, short_read target little, tt)))));
          is = first ∙ (asked_plain u c r ms plain ∙ rw (word_of target little, eqb-true arg 0 e) refl);
        }
    plain_by r target arg false plain little tiny e =
        let values = number u ∷ datum.string (codes "ptrace") ∷ number c ∷ datum.string (request_name r) ∷ number target ∷ number arg ∷ [] in
        let keys : List Member = (codes "user", natural u) ∷ (codes "op", string (codes "ptrace")) ∷ (codes "caller", natural c) ∷ (codes "request", string (request_name r)) ∷ (codes "target", natural target) ∷ (codes "data", natural arg) ∷ [] in
        let ms = puts keys values datum.no_members in
        let first : step_of (object_in keys values) ≡ (asked_of c r (fields_in ms) >>= (λ s. Ok (by_user u s))) = rw (user_of u user, word_of c small, request_is r) refl in
        record {
          values = values;
          read = (refl, user_read, (refl, name_read (codes "ptrace") refl, (refl, short_read c small, (refl, name_read (request_name r) (request_ascii r), (refl, short_read target little, (refl, short_read arg tiny, tt))))));
          is = first ∙ (asked_plain u c r ms plain ∙ rw (word_of target little, word_of arg tiny) refl);
        }

    plain_line : (r : Request) (target arg : ℕ) → is_plain r ≡ true → target < 2 ^ 32 → arg < 2 ^ 32 → Line u (plain.Ptrace c r target arg)
    unfolding step_keys caller_key op_keys
    plain_line r target arg is little tiny = rw (keys_plain r target arg is, line_plain c r target arg is) (plain_by r target arg (arg == 0) is little tiny refl)

  -- ---- turns

  module _ (lwp : ℕ) (small : lwp < 2 ^ 32) where
    abbrev call_values : List ℕ → List Data
    call_values name = number u ∷ datum.string (codes "turn") ∷ number lwp ∷ datum.string (codes "enter") ∷ datum.string name ∷ []

    compute_line : Line u (plain.Turn lwp act.Compute)
    unfolding step_from rest_of step_keys caller_key op_keys act_keys
    compute_line =
        let values = number u ∷ datum.string (codes "turn") ∷ number lwp ∷ datum.string (codes "compute") ∷ [] in
        record {
          values = values;
          read = (refl, user_read, (refl, name_read (codes "turn") refl, (refl, short_read lwp small, (refl, name_read (codes "compute") refl, tt))));
          is = rw (user_of u user, word_of lwp small) refl;
        }

    leave_line : Line u (plain.Turn lwp act.Leave)
    unfolding step_from rest_of step_keys caller_key op_keys act_keys
    leave_line =
        let values = number u ∷ datum.string (codes "turn") ∷ number lwp ∷ datum.string (codes "leave") ∷ [] in
        record {
          values = values;
          read = (refl, user_read, (refl, name_read (codes "turn") refl, (refl, short_read lwp small, (refl, name_read (codes "leave") refl, tt))));
          is = rw (user_of u user, word_of lwp small) refl;
        }

    raise_line : (s : ℕ) → s < 2 ^ 32 → Line u (plain.Turn lwp (act.Raise s))
    unfolding step_from rest_of step_keys caller_key op_keys act_keys
    raise_line s little =
        let values = number u ∷ datum.string (codes "turn") ∷ number lwp ∷ datum.string (codes "raise") ∷ number s ∷ [] in
        record {
          values = values;
          read = (refl, user_read, (refl, name_read (codes "turn") refl, (refl, short_read lwp small, (refl, name_read (codes "raise") refl, (refl, short_read s little, tt)))));
          is = rw (user_of u user, word_of lwp small, word_of s little) refl;
        }

    block_by : (set : ℕ) (signals : Data) → IsRead 3 (numbers_of (members set)) signals → set_of signals ≡ Ok set → Line u (plain.Turn lwp (act.Block set))
    unfolding step_from rest_of step_keys caller_key op_keys act_keys
    block_by set signals is_read is =
        let values = number u ∷ datum.string (codes "turn") ∷ number lwp ∷ datum.string (codes "block") ∷ signals ∷ [] in
        record {
          values = values;
          read = (refl, user_read, (refl, name_read (codes "turn") refl, (refl, short_read lwp small, (refl, name_read (codes "block") refl, (refl, is_read, tt)))));
          is = rw (user_of u user, word_of lwp small, is) refl;
        }

    block_line : (set : ℕ) → set < 2 ^ 31 → Line u (plain.Turn lwp (act.Block set))
    block_line set little = block_by set (set_data set) (set_read 2 set) (set_of_numbers set little)

    exit_line : (code : ℕ) → code ≤ 255 → Line u (plain.Turn lwp (act.Enter (call.Exit code)))
    unfolding step_from rest_of step_keys caller_key op_keys act_keys code_key
    exit_line code little =
        let values = number u ∷ datum.string (codes "turn") ∷ number lwp ∷ datum.string (codes "enter") ∷ datum.string (codes "exit") ∷ number code ∷ [] in
        record {
          values = values;
          read = (refl, user_read, (refl, name_read (codes "turn") refl, (refl, short_read lwp small, (refl, name_read (codes "enter") refl, (refl, name_read (codes "exit") refl, (refl, short_read code (omega arith), tt))))));
          is = rw (user_of u user, word_of lwp small, byte_of code little) refl;
        }

    other_line : (code : ℕ) → code < 2 ^ 32 → Line u (plain.Turn lwp (act.Enter (call.Other code)))
    unfolding step_from rest_of step_keys caller_key op_keys act_keys code_key
    other_line code little =
        let values = number u ∷ datum.string (codes "turn") ∷ number lwp ∷ datum.string (codes "enter") ∷ datum.string (codes "other") ∷ number code ∷ [] in
        record {
          values = values;
          read = (refl, user_read, (refl, name_read (codes "turn") refl, (refl, short_read lwp small, (refl, name_read (codes "enter") refl, (refl, name_read (codes "other") refl, (refl, short_read code little, tt))))));
          is = rw (user_of u user, word_of lwp small, word_of code little) refl;
        }

    -- a call without a code
    call_line : (c : Call) → has_code c ≡ false → Line u (plain.Turn lwp (act.Enter c))
    unfolding step_from rest_of step_keys caller_key op_keys act_keys code_key
    call_line call.Fork h =
        record {
          values = call_values (codes "fork");
          read = (refl, user_read, (refl, name_read (codes "turn") refl, (refl, short_read lwp small, (refl, name_read (codes "enter") refl, (refl, name_read (codes "fork") refl, tt)))));
          is = rw (user_of u user, word_of lwp small) refl;
        }
    call_line call.Vfork h =
        record {
          values = call_values (codes "vfork");
          read = (refl, user_read, (refl, name_read (codes "turn") refl, (refl, short_read lwp small, (refl, name_read (codes "enter") refl, (refl, name_read (codes "vfork") refl, tt)))));
          is = rw (user_of u user, word_of lwp small) refl;
        }
    call_line call.Exec h =
        record {
          values = call_values (codes "exec");
          read = (refl, user_read, (refl, name_read (codes "turn") refl, (refl, short_read lwp small, (refl, name_read (codes "enter") refl, (refl, name_read (codes "exec") refl, tt)))));
          is = rw (user_of u user, word_of lwp small) refl;
        }
    call_line call.ThrNew h =
        record {
          values = call_values (codes "thr_new");
          read = (refl, user_read, (refl, name_read (codes "turn") refl, (refl, short_read lwp small, (refl, name_read (codes "enter") refl, (refl, name_read (codes "thr_new") refl, tt)))));
          is = rw (user_of u user, word_of lwp small) refl;
        }
    call_line call.ThrExit h =
        record {
          values = call_values (codes "thr_exit");
          read = (refl, user_read, (refl, name_read (codes "turn") refl, (refl, short_read lwp small, (refl, name_read (codes "enter") refl, (refl, name_read (codes "thr_exit") refl, tt)))));
          is = rw (user_of u user, word_of lwp small) refl;
        }
    call_line (call.Exit code) h = absurd (true≢false h)
    call_line (call.Other code) h = absurd (true≢false h)

    act_line : (a : Act) → IsAct a → Line u (plain.Turn lwp a)
    act_line act.Compute h = compute_line
    act_line act.Leave h = leave_line
    act_line (act.Raise s) h = raise_line s h
    act_line (act.Block set) h = block_line set h
    act_line (act.Enter (call.Exit code)) h = exit_line code h
    act_line (act.Enter (call.Other code)) h = other_line code h
    act_line (act.Enter c) h = call_line c refl

  -- the keys of each step that a line can be
  pub line_is : (s : PlainStep) → HasLine s → Line u s
  line_is plain.Spawn h = spawn_line
  line_is (plain.List c) h = list_line c h
  line_is (plain.Handle c) h = handle_line c h
  line_is (plain.Kill c w s) h = kill_line c h.0 w s h.1 h.2
  line_is (plain.Sigaction c s d) h = sigaction_line c h.0 s d h.1
  line_is (plain.Wait4 c w o) h = wait4_line c h.0 w h.1 o.untraced o.continued
  line_is (plain.Install c policy) h = install_line c h.0 policy h.1 h.2
  line_is (plain.Ptrace c request.TraceMe target arg) h = trace_me_line c h.0 target arg
  line_is (plain.Ptrace c request.SetEventMask target mask) h = mask_line c h.0 target mask h.1 h.2
  line_is (plain.Ptrace c r target arg) h = plain_line c h.0 r target arg refl h.1 h.2
  line_is (plain.Turn lwp a) h = act_line lwp h.0 a h.1
