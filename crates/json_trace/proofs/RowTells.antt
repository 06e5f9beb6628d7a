-- The text of a user's rows tells the rows.
use Rattle.std.proofs.Common.{◌≡◌, ℕ, ◌<◌, ◌≤◌, ◌^◌, Bool, true, false, cond, List, [], ◌∷◌, map, filter, get_or, Option, Some, None, refl, sym, ap, ◌∙◌, arith, bit_and, bit_or}
use Rattle.std.{specs.Prelude.{⊤, not, is_some, ◌==◌, ◌||◌}, proofs.lemmas.{Bool.{cases_Bool, eqb-true, true≢false}, Bool.Decides.nat_tests, Fmt.decimal_injective}}
use Rattle.json.specs.{Json.{Items, no_items, item, Members, no_members, member, array, null, number, object, document}, Value.items_of}
use Rattle.json.proofs.Printed.{Trees.document-print}
use Rattle.signals.specs.{Names.{by_name, signal_name, table}, Sets.{has, members, numbers}}
use Rattle.event_masks.specs.{Calls.{call_name, call_named, kind_of_call}, Names.{event_table, stop_table, names_of}, declared.{Call.Call, CallKind.CallKind}}
use Rattle.event_masks.specs.declared.Call.TheVariants as call
use Rattle.event_masks.specs.declared.CallKind.TheVariants as kind
use Rattle.lwp_table.specs.declared.{LwpData.LwpData, Mode.Mode, Due.Due}
use Rattle.lwp_table.specs.declared.Mode.TheVariants as mode
use Rattle.lwp_table.specs.declared.Due.TheVariants as due
use Rattle.proc_table.specs.declared.{ProcData.ProcData, State.State}
use Rattle.proc_table.specs.declared.State.TheVariants as state
use Rattle.reply_json.specs.{Objects.{Json, Member, json_text, members_of, natural, object_of, string, strings_of}, Replies.signals_of}
use Rattle.open_sessions.proofs.LineSets.{among, every_number, same_sets, upto_sound}
use Rattle.json_trace.specs.{RowLaws.{AreLwps, AreProcesses, IsLwp, IsMode, IsOptional, IsProcess, IsState, RowsTell}, Rows.{call_argument, lwp_value, process_value, rows_members}}
use Rattle.json_trace.proofs.{RowTexts.{IsPlain, rows_plain}, Parts.{Part, Same, are_distinct, flat, flat_tells}, RowLemmas.{argument_low, argument_or_0, call_in, due_word, is_cons, is_due, is_reported, lwp_flat, lwp_names, lwp_parts, mode_word, name_or_none, number_or_0, process_flat, process_names, process_parts, rows_flat, rows_names, rows_parts, state_word, status_of, stop_lwp, stop_signal, vfork_child}}

-- ---- values

abbrev text_of : Json → List ℕ
text_of (number s) = s
text_of (string s) = s
text_of j = []

natural_tells : (m n : ℕ) → m < 2 ^ 32 → n < 2 ^ 32 → natural m ≡ natural n → m ≡ n
natural_tells m n low less e = decimal_injective m n (omega arith) (omega arith) (ap text_of e)

option_tells : (a b : Option ℕ) → IsOptional a → IsOptional b → is_some a ≡ is_some b → (is_some a ≡ true → natural (number_or_0 a) ≡ natural (number_or_0 b)) → a ≡ b
option_tells None None h k e f = refl
option_tells (Some a) (Some b) h k e f = ap Some (natural_tells a b h k (f refl))
option_tells None (Some b) h k e f = absurd (true≢false (sym e))
option_tells (Some a) None h k e f = absurd (true≢false e)

-- a number that is 0 if its member is missing
zero_tells : (a b : ℕ) → not (a == 0) ≡ not (b == 0) → (not (a == 0) ≡ true → a ≡ b) → a ≡ b
zero_tells a b e f = grind (arith, nat_tests, cases_Bool (a == 0), cases_Bool (b == 0), eqb-true a 0, eqb-true b 0)

nonzero_tells : (a b : ℕ) → a < 2 ^ 32 → b < 2 ^ 32 → not (a == 0) ≡ not (b == 0) → (not (a == 0) ≡ true → natural a ≡ natural b) → a ≡ b
nonzero_tells a b low less e f = zero_tells a b e (λ there. natural_tells a b low less (f there))

abbrev texts_in : Items → List (List ℕ)
texts_in no_items = []
texts_in (item j js) = text_of j ∷ texts_in js

abbrev texts_of : Json → List (List ℕ)
texts_of (array js) = texts_in js
texts_of j = []

texts_back : (texts : List (List ℕ)) → texts_of (strings_of texts) ≡ texts
texts_back [] = refl
texts_back (t ∷ ts) = ap (λ (l : List (List ℕ)). t ∷ l) (texts_back ts)

strings_tell : (a b : List (List ℕ)) → strings_of a ≡ strings_of b → a ≡ b
strings_tell a b e = sym (texts_back a) ∙ (ap texts_of e ∙ texts_back b)

-- ---- names that are kept

module _ {X : Type 0} (name : X → List ℕ) where
  abbrev all_names : List X → List (List ℕ)
  all_names xs = map name xs

  abbrev kept_parts : (X → Bool) → List X → List Part
  kept_parts test [] = []
  kept_parts test (x ∷ xs) = (test x, null) ∷ kept_parts test xs

  abbrev no_values : List (List ℕ) → List Member
  no_values [] = []
  no_values (n ∷ ns) = (n, null) ∷ no_values ns

  kept_flat : (test : X → Bool) (xs : List X) → flat (all_names xs) (kept_parts test xs) [] ≡ no_values (map name (filter test xs))
  kept_flat test [] = refl
  kept_flat test (x ∷ xs) = go (test x) (kept_flat test xs)
    where
      go : (b : Bool) → flat (all_names xs) (kept_parts test xs) [] ≡ no_values (map name (filter test xs))
          → cond b ((name x, null) ∷ flat (all_names xs) (kept_parts test xs) []) (flat (all_names xs) (kept_parts test xs) []) ≡ no_values (map name (cond b (x ∷ filter test xs) (filter test xs)))
      go true rest = ap (λ (l : List Member). (name x, null) ∷ l) rest
      go false rest = rest

  -- both tests say the same of each
  abbrev Agree : (p q : X → Bool) → List X → Type 0
  Agree p q [] = ⊤
  Agree p q (x ∷ xs) = (p x ≡ q x) × Agree p q xs

  agrees : (p q : X → Bool) (xs : List X) → Same (all_names xs) (kept_parts p xs) (kept_parts q xs) → Agree p q xs
  agrees p q [] same = tt
  agrees p q (x ∷ xs) same = (same.0, agrees p q xs same.2)

  kept_tells : (p q : X → Bool) (xs : List X) → are_distinct (all_names xs) ≡ true → map name (filter p xs) ≡ map name (filter q xs) → Agree p q xs
  kept_tells p q xs distinct e =
      agrees p q xs (flat_tells (all_names xs) (kept_parts p xs) (kept_parts q xs) distinct (kept_flat p xs ∙ (ap no_values e ∙ sym (kept_flat q xs))))

abbrev Row : Type 0
Row = List ℕ × ℕ

abbrev row_name : Row → List ℕ
row_name row = row.0

abbrev has_row : ℕ → Row → Bool
has_row bits row = bit_and bits row.1 == row.1

-- the bits of the rows that pass
abbrev bits_by : (Row → Bool) → List Row → ℕ
bits_by test [] = 0
bits_by test (row ∷ rows) = bit_or (cond (test row) row.1 0) (bits_by test rows)

bits_agree : (p q : Row → Bool) (rows : List Row) → Agree row_name p q rows → bits_by p rows ≡ bits_by q rows
bits_agree p q [] agree = refl
bits_agree p q (row ∷ rows) agree = rw (agree.0, bits_agree p q rows agree.1) refl

events_tell : (a b : ℕ) → a < 64 → b < 64 → names_of event_table a ≡ names_of event_table b → a ≡ b
events_tell a b low less e =
    let first : bits_by (has_row a) event_table ≡ a = eqb-true _ _ (upto_sound (λ n. bits_by (has_row n) event_table == n) 64 refl a low) in
    let second : bits_by (has_row b) event_table ≡ b = eqb-true _ _ (upto_sound (λ n. bits_by (has_row n) event_table == n) 64 refl b less) in
    sym first ∙ (bits_agree (has_row a) (has_row b) event_table (kept_tells row_name (has_row a) (has_row b) event_table refl e) ∙ second)

flags_tell : (a b : ℕ) → a < 512 → b < 512 → names_of stop_table a ≡ names_of stop_table b → a ≡ b
flags_tell a b low less e =
    let first : bits_by (has_row a) stop_table ≡ a = eqb-true _ _ (upto_sound (λ n. bits_by (has_row n) stop_table == n) 512 refl a low) in
    let second : bits_by (has_row b) stop_table ≡ b = eqb-true _ _ (upto_sound (λ n. bits_by (has_row n) stop_table == n) 512 refl b less) in
    sym first ∙ (bits_agree (has_row a) (has_row b) stop_table (kept_tells row_name (has_row a) (has_row b) stop_table refl e) ∙ second)

-- ---- signals

agree_at : (p q : ℕ → Bool) (ns : List ℕ) (m : ℕ) → Agree (λ n. signal_name n) p q ns → among m ns ≡ true → p m ≡ q m
agree_at p q [] m agree is = absurd (true≢false (sym is))
agree_at p q (n ∷ ns) m agree is = go (m == n) refl (agree_at p q ns m agree.1) is
  where
    go : (b : Bool) → (m == n) ≡ b → (among m ns ≡ true → p m ≡ q m) → (b || among m ns) ≡ true → p m ≡ q m
    go true e rest there = rw (eqb-true m n e) agree.0
    go false e rest there = rest there

distinct_signals : are_distinct (map (λ n. signal_name n) numbers) ≡ true
unfolding table
distinct_signals = refl

set_tells : (a b : ℕ) → a < 2 ^ 31 → b < 2 ^ 31 → signals_of a ≡ signals_of b → a ≡ b
unfolding members
set_tells a b low less e =
    let agree = kept_tells (λ n. signal_name n) (has a) (has b) numbers distinct_signals (strings_tell _ _ e) in
    same_sets a b low less (λ m signal. agree_at (has a) (has b) numbers m agree (every_number m signal))

some_set_tells : (a b : ℕ) → a < 2 ^ 31 → b < 2 ^ 31 → not (a == 0) ≡ not (b == 0) → (not (a == 0) ≡ true → signals_of a ≡ signals_of b) → a ≡ b
some_set_tells a b low less e f = zero_tells a b e (λ there. set_tells a b low less (f there))

abbrev is_some_at : ℕ → Option ℕ → Bool
is_some_at n None = false
is_some_at n (Some m) = m == n

some_at : (n : ℕ) (o : Option ℕ) → is_some_at n o ≡ true → o ≡ Some n
some_at n None h = absurd (true≢false (sym h))
some_at n (Some m) h = ap Some (eqb-true m n h)

named_number : (n : ℕ) → (1 ≤ n) × (n ≤ 31) → by_name (signal_name n) ≡ Some n
unfolding table
named_number n signal = some_at n (by_name (signal_name n)) (grind (arith, nat_tests, upto_sound (λ m. (m == 0) || is_some_at m (by_name (signal_name m))) 32 refl n (omega arith)))

signal_tells : (a b : ℕ) → (1 ≤ a) × (a ≤ 31) → (1 ≤ b) × (b ≤ 31) → string (signal_name a) ≡ string (signal_name b) → a ≡ b
signal_tells a b h k e =
    let same : by_name (signal_name a) ≡ by_name (signal_name b) = ap (λ (j : Json). by_name (text_of j)) e in
    let found : Some a ≡ Some b = sym (named_number a h) ∙ (same ∙ named_number b k) in
    ap number_or_0 found

-- ---- calls, modes and states

named_call : (k : CallKind) → call_named (call_name k) ≡ Some k
named_call kind.Fork = refl
named_call kind.Vfork = refl
named_call kind.Exec = refl
named_call kind.ThrNew = refl
named_call kind.ThrExit = refl
named_call kind.Exit = refl
named_call kind.Other = refl

kind_tells : (k l : CallKind) → call_name k ≡ call_name l → k ≡ l
kind_tells k l e = let found : Some k ≡ Some l = sym (named_call k) ∙ (ap call_named e ∙ named_call l) in cc

call_tells : (a b : Call) → kind_of_call a ≡ kind_of_call b → call_argument a ≡ call_argument b → a ≡ b
call_tells call.Fork call.Fork e f = refl
call_tells call.Vfork call.Vfork e f = refl
call_tells call.Exec call.Exec e f = refl
call_tells call.ThrNew call.ThrNew e f = refl
call_tells call.ThrExit call.ThrExit e f = refl
call_tells (call.Exit s) (call.Exit t) e f = ap call.Exit f
call_tells (call.Other s) (call.Other t) e f = ap call.Other f
call_tells a b e f = absurd (cc)

mode_tells : (a b : Mode) → IsMode a → IsMode b → string (mode_word a) ≡ string (mode_word b)
    → is_some (call_in a) ≡ is_some (call_in b) → (is_some (call_in a) ≡ true → string (name_or_none (call_in a)) ≡ string (name_or_none (call_in b)))
    → not (argument_or_0 (call_in a) == 0) ≡ not (argument_or_0 (call_in b) == 0) → (not (argument_or_0 (call_in a) == 0) ≡ true → natural (argument_or_0 (call_in a)) ≡ natural (argument_or_0 (call_in b)))
    → is_some (vfork_child a) ≡ is_some (vfork_child b) → (is_some (vfork_child a) ≡ true → natural (number_or_0 (vfork_child a)) ≡ natural (number_or_0 (vfork_child b))) → a ≡ b
mode_tells mode.User mode.User h k w c n s t v f = refl
mode_tells (mode.InCall a) (mode.InCall b) h k w c n s t v f =
    let same : kind_of_call a ≡ kind_of_call b = kind_tells (kind_of_call a) (kind_of_call b) (ap text_of (n refl)) in
    let argument : call_argument a ≡ call_argument b = nonzero_tells (call_argument a) (call_argument b) (argument_low a h) (argument_low b k) s t in
    ap mode.InCall (call_tells a b same argument)
mode_tells (mode.VforkWait a) (mode.VforkWait b) h k w c n s t v f = ap mode.VforkWait (natural_tells a b h k (f refl))
mode_tells mode.User (mode.InCall b) h k w c n s t v f = absurd (true≢false (sym c))
mode_tells mode.User (mode.VforkWait b) h k w c n s t v f = absurd (true≢false (sym v))
mode_tells (mode.InCall a) mode.User h k w c n s t v f = absurd (true≢false c)
mode_tells (mode.InCall a) (mode.VforkWait b) h k w c n s t v f = absurd (true≢false c)
mode_tells (mode.VforkWait a) mode.User h k w c n s t v f = absurd (true≢false v)
mode_tells (mode.VforkWait a) (mode.InCall b) h k w c n s t v f = absurd (true≢false v)

-- the second letters of the words of stops that are due differ
due_tells : (a b : Due) → is_due a ≡ is_due b → (is_due a ≡ true → string (due_word a) ≡ string (due_word b)) → a ≡ b
due_tells due.Nothing due.Nothing e f = refl
due_tells due.Born due.Born e f = refl
due_tells due.Begun due.Begun e f = refl
due_tells due.VforkDone due.VforkDone e f = refl
due_tells due.Nothing b e f = absurd (true≢false (sym e))
due_tells a due.Nothing e f = absurd (true≢false e)
due_tells a b e f = let letters = ap (λ (j : Json). get_or (text_of j) 1 0) (f refl) in absurd (omega (arith, letters))

state_tells : (a b : State) → IsState a → IsState b → string (state_word a) ≡ string (state_word b)
    → is_some (stop_signal a) ≡ is_some (stop_signal b) → (is_some (stop_signal a) ≡ true → string (signal_name (number_or_0 (stop_signal a))) ≡ string (signal_name (number_or_0 (stop_signal b))))
    → is_reported a ≡ is_reported b
    → is_some (stop_lwp a) ≡ is_some (stop_lwp b) → (is_some (stop_lwp a) ≡ true → natural (number_or_0 (stop_lwp a)) ≡ natural (number_or_0 (stop_lwp b)))
    → is_some (status_of a) ≡ is_some (status_of b) → (is_some (status_of a) ≡ true → natural (number_or_0 (status_of a)) ≡ natural (number_or_0 (status_of b))) → a ≡ b
state_tells state.Run state.Run h k w s n r l m z f = refl
state_tells (state.Trace t i c) (state.Trace u j d) h k w s n r l m z f =
    let lwp : t ≡ u = natural_tells t u h.0 k.0 (m refl) in
    let signal : i ≡ j = signal_tells i j h.1 k.1 (n refl) in
    cc
state_tells (state.Job i c) (state.Job j d) h k w s n r l m z f = let signal : i ≡ j = signal_tells i j h k (n refl) in cc
state_tells (state.Zombie a) (state.Zombie b) h k w s n r l m z f = ap state.Zombie (natural_tells a b h k (f refl))
state_tells a b h k w s n r l m z f = let letters = ap (λ (j : Json). get_or (text_of j) 0 0) w in absurd (omega (arith, letters))

-- ---- rows

process_of : ℕ → ℕ → ℕ → Option ℕ → State → Bool → ℕ → ℕ → ℕ → ℕ → ProcData
process_of pid uid parent tracer state continued mask ignored caught pending = record {
  pid = pid;
  uid = uid;
  parent = parent;
  tracer = tracer;
  state = state;
  continued = continued;
  mask = record { 0 = mask };
  dispositions = record { ignored = ignored; caught = caught };
  pending = pending;
}

process_tells : (u : ℕ) (p q : ProcData) → IsProcess u p → IsProcess u q → Same process_names (process_parts p) (process_parts q) → p ≡ q
unfolding process_of
process_tells u p q h k s0 =
    let s1 = s0.2 in
    let s2 = s1.2 in
    let s3 = s2.2 in
    let s4 = s3.2 in
    let s5 = s4.2 in
    let s6 = s5.2 in
    let s7 = s6.2 in
    let s8 = s7.2 in
    let s9 = s8.2 in
    let s10 = s9.2 in
    let s11 = s10.2 in
    let s12 = s11.2 in
    let pid : p.pid ≡ q.pid = natural_tells p.pid q.pid h.pid k.pid (s0.1 refl) in
    let uid : p.uid ≡ q.uid = h.uid ∙ sym k.uid in
    let parent : p.parent ≡ q.parent = natural_tells p.parent q.parent h.parent k.parent (s1.1 refl) in
    let tracer : p.tracer ≡ q.tracer = option_tells p.tracer q.tracer h.tracer k.tracer s2.0 s2.1 in
    let state : p.state ≡ q.state = state_tells p.state q.state h.state k.state (s3.1 refl) s4.0 s4.1 s5.0 s6.0 s6.1 s7.0 s7.1 in
    let continued : p.continued ≡ q.continued = s8.0 in
    let mask : p.mask.0 ≡ q.mask.0 = zero_tells p.mask.0 q.mask.0 s9.0 (λ there. events_tell p.mask.0 q.mask.0 h.mask k.mask (strings_tell _ _ (s9.1 there))) in
    let pending : p.pending ≡ q.pending = some_set_tells p.pending q.pending h.pending k.pending s10.0 s10.1 in
    let ignored : p.dispositions.ignored ≡ q.dispositions.ignored = some_set_tells p.dispositions.ignored q.dispositions.ignored h.ignored k.ignored s11.0 s11.1 in
    let caught : p.dispositions.caught ≡ q.dispositions.caught = some_set_tells p.dispositions.caught q.dispositions.caught h.caught k.caught s12.0 s12.1 in
    let same : process_of p.pid p.uid p.parent p.tracer p.state p.continued p.mask.0 p.dispositions.ignored p.dispositions.caught p.pending
    ≡ process_of q.pid q.uid q.parent q.tracer q.state q.continued q.mask.0 q.dispositions.ignored q.dispositions.caught q.pending =
    rw (pid, uid, parent, tracer, state, continued, mask, pending, ignored, caught) refl in
    same

lwp_of : ℕ → ℕ → Mode → Bool → Bool → ℕ → ℕ → Due → ℕ → ℕ → ℕ → LwpData
lwp_of tid pid mode suspended stepping blocked pending due flags child code = record {
  tid = tid;
  pid = pid;
  mode = mode;
  suspended = suspended;
  stepping = stepping;
  blocked = blocked;
  pending = pending;
  due = due;
  flags = record { 0 = flags };
  child = child;
  code = code;
}

lwp_tells : (p q : LwpData) → IsLwp p → IsLwp q → Same lwp_names (lwp_parts p) (lwp_parts q) → p ≡ q
unfolding lwp_of
lwp_tells p q h k s0 =
    let s1 = s0.2 in
    let s2 = s1.2 in
    let s3 = s2.2 in
    let s4 = s3.2 in
    let s5 = s4.2 in
    let s6 = s5.2 in
    let s7 = s6.2 in
    let s8 = s7.2 in
    let s9 = s8.2 in
    let s10 = s9.2 in
    let s11 = s10.2 in
    let s12 = s11.2 in
    let s13 = s12.2 in
    let tid : p.tid ≡ q.tid = natural_tells p.tid q.tid h.tid k.tid (s0.1 refl) in
    let pid : p.pid ≡ q.pid = natural_tells p.pid q.pid h.pid k.pid (s1.1 refl) in
    let mode : p.mode ≡ q.mode = mode_tells p.mode q.mode h.mode k.mode (s2.1 refl) s3.0 s3.1 s4.0 s4.1 s5.0 s5.1 in
    let suspended : p.suspended ≡ q.suspended = s6.0 in
    let stepping : p.stepping ≡ q.stepping = s7.0 in
    let blocked : p.blocked ≡ q.blocked = some_set_tells p.blocked q.blocked h.blocked k.blocked s8.0 s8.1 in
    let pending : p.pending ≡ q.pending = some_set_tells p.pending q.pending h.pending k.pending s9.0 s9.1 in
    let due : p.due ≡ q.due = due_tells p.due q.due s10.0 s10.1 in
    let flags : p.flags.0 ≡ q.flags.0 = zero_tells p.flags.0 q.flags.0 s11.0 (λ there. flags_tell p.flags.0 q.flags.0 h.flags k.flags (strings_tell _ _ (s11.1 there))) in
    let child : p.child ≡ q.child = nonzero_tells p.child q.child h.child k.child s12.0 s12.1 in
    let code : p.code ≡ q.code = nonzero_tells p.code q.code h.code k.code s13.0 s13.1 in
    let same : lwp_of p.tid p.pid p.mode p.suspended p.stepping p.blocked p.pending p.due p.flags.0 p.child p.code
    ≡ lwp_of q.tid q.pid q.mode q.suspended q.stepping q.blocked q.pending q.due q.flags.0 q.child q.code =
    rw (tid, pid, mode, suspended, stepping, blocked, pending, due, flags, child, code) refl in
    same

-- ---- objects and lists

abbrev members_in : Members → List Member
members_in no_members = []
members_in (member name j ms) = (name, j) ∷ members_in ms

abbrev members_of_object : Json → List Member
members_of_object (object ms) = members_in ms
members_of_object j = []

members_back : (ms : List Member) → members_in (members_of ms) ≡ ms
members_back [] = refl
members_back (m ∷ ms) = ap (λ (l : List Member). m ∷ l) (members_back ms)

object_tells : (ms ns : List Member) → object_of ms ≡ object_of ns → ms ≡ ns
object_tells ms ns e = sym (members_back ms) ∙ (ap members_of_object e ∙ members_back ns)

abbrev items_in : Items → List Json
items_in no_items = []
items_in (item j js) = j ∷ items_in js

abbrev items_of_array : Json → List Json
items_of_array (array js) = items_in js
items_of_array j = []

items_back : (js : List Json) → items_in (items_of js) ≡ js
items_back [] = refl
items_back (j ∷ js) = ap (λ (l : List Json). j ∷ l) (items_back js)

array_tells : (js ks : List Json) → array (items_of js) ≡ array (items_of ks) → js ≡ ks
array_tells js ks e = sym (items_back js) ∙ (ap items_of_array e ∙ items_back ks)

one_process : (u : ℕ) (p q : ProcData) → IsProcess u p → IsProcess u q → process_value p ≡ process_value q → p ≡ q
one_process u p q h k e =
    process_tells u p q h k (flat_tells process_names (process_parts p) (process_parts q) refl (sym (process_flat p) ∙ (object_tells _ _ e ∙ process_flat q)))

one_lwp : (k l : LwpData) → IsLwp k → IsLwp l → lwp_value k ≡ lwp_value l → k ≡ l
one_lwp k l h i e = lwp_tells k l h i (flat_tells lwp_names (lwp_parts k) (lwp_parts l) refl (sym (lwp_flat k) ∙ (object_tells _ _ e ∙ lwp_flat l)))

abbrev first_of : Json → List Json → Json
first_of other [] = other
first_of other (j ∷ js) = j

abbrev rest_of : List Json → List Json
rest_of [] = []
rest_of (j ∷ js) = js

processes_tell : (u : ℕ) (ps qs : List ProcData) → AreProcesses u ps → AreProcesses u qs → map (λ p. process_value p) ps ≡ map (λ p. process_value p) qs → ps ≡ qs
processes_tell u [] [] h k e = refl
processes_tell u [] (q ∷ qs) h k e = absurd (true≢false (sym (ap is_cons e)))
processes_tell u (p ∷ ps) [] h k e = absurd (true≢false (ap is_cons e))
processes_tell u (p ∷ ps) (q ∷ qs) h k e =
    let one : p ≡ q = one_process u p q h.0 k.0 (ap (first_of null) e) in
    let more : ps ≡ qs = processes_tell u ps qs h.1 k.1 (ap rest_of e) in
    cc

lwps_tell : (ks ls : List LwpData) → AreLwps ks → AreLwps ls → map (λ l. lwp_value l) ks ≡ map (λ l. lwp_value l) ls → ks ≡ ls
lwps_tell [] [] h i e = refl
lwps_tell [] (l ∷ ls) h i e = absurd (true≢false (sym (ap is_cons e)))
lwps_tell (k ∷ ks) [] h i e = absurd (true≢false (ap is_cons e))
lwps_tell (k ∷ ks) (l ∷ ls) h i e =
    let one : k ≡ l = one_lwp k l h.0 i.0 (ap (first_of null) e) in
    let more : ks ≡ ls = lwps_tell ks ls h.1 i.1 (ap rest_of e) in
    cc

list_tells : (js ks : List Json) → is_cons js ≡ is_cons ks → (is_cons js ≡ true → array (items_of js) ≡ array (items_of ks)) → js ≡ ks
list_tells [] [] e f = refl
list_tells [] (k ∷ ks) e f = absurd (true≢false (sym e))
list_tells (j ∷ js) [] e f = absurd (true≢false e)
list_tells (j ∷ js) (k ∷ ks) e f = array_tells (j ∷ js) (k ∷ ks) (f refl)

-- ---- the text

text_tells : (j k : Json) → IsPlain 4 j → IsPlain 4 k → json_text j ≡ json_text k → j ≡ k
text_tells j k one other e =
    let first = document-print j one.numbers (omega (arith, one.low)) in
    let second = document-print k other.numbers (omega (arith, other.low)) in
    let same : Some j ≡ Some k = sym first ∙ (ap document e ∙ second) in
    cc

pub rows_tell : RowsTell
rows_tell u v w h k e =
    let values = text_tells (object_of (rows_members v)) (object_of (rows_members w)) (rows_plain u v h.0 h.1) (rows_plain u w k.0 k.1) e in
    let same = flat_tells rows_names (rows_parts v) (rows_parts w) refl (sym (rows_flat v) ∙ (object_tells _ _ values ∙ rows_flat w)) in
    let processes = list_tells (map (λ p. process_value p) v.processes) (map (λ p. process_value p) w.processes) same.0 same.1 in
    let lwps = list_tells (map (λ l. lwp_value l) v.lwps) (map (λ l. lwp_value l) w.lwps) same.2.0 same.2.1 in
    (processes_tell u v.processes w.processes h.0 k.0 processes, lwps_tell v.lwps w.lwps h.1 k.1 lwps)
