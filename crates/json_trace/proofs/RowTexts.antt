-- The rows of a user can be printed, and nest a few levels.
use Rattle.std.proofs.Common.{◌≡◌, ℕ, suc, ◌<◌, ◌≤◌, ◌^◌, Bool, true, false, cond, List, [], ◌∷◌, map, Option, Some, None, arith}
use Rattle.std.specs.Prelude.{⊤}
use Rattle.json.specs.{Json.{Members, array}, Tree.{depth, items_depth, members_depth, HasNumbers, ItemsHaveNumbers, MembersHaveNumbers}, Value.items_of}
use Rattle.json.proofs.Printed.Decimals.{IsNumber-decimal}
use Rattle.lwp_table.specs.declared.{LwpData.LwpData, Mode.Mode}
use Rattle.lwp_table.specs.declared.Mode.TheVariants as mode
use Rattle.proc_table.specs.declared.{ProcData.ProcData, State.State}
use Rattle.proc_table.specs.declared.State.TheVariants as state
use Rattle.requests.specs.View.{View}
use Rattle.reply_json.specs.Objects.{Json, Member, boolean, members_of, natural, object_of, string, strings_of}
use Rattle.json_trace.specs.{RowLaws.{AreLwps, AreProcesses, IsLwp, IsMode, IsOptional, IsProcess, IsState}, Rows.{lwp_value, process_value, rows_members}}
use Rattle.json_trace.proofs.{Parts.{Part, flat}, RowLemmas.{argument_low, argument_or_0, call_in, lwp_flat, lwp_names, lwp_parts, number_or_0, process_flat, process_names, process_parts, rows_flat, rows_names, rows_parts, status_of, stop_lwp, vfork_child}}

-- a value can be printed and read, and nests no deeper than k
pub record IsPlain (k : ℕ) (j : Json) : Type 0 where
  pub numbers : HasNumbers j
  pub low : depth j ≤ k

natural_plain : (k n : ℕ) → n < 2 ^ 32 → IsPlain k (natural n)
natural_plain k n low = record { numbers = IsNumber-decimal n (omega arith); low = omega arith }

optional_plain : (k : ℕ) (n : Option ℕ) → IsOptional n → IsPlain k (natural (number_or_0 n))
optional_plain k None h = natural_plain k 0 (omega arith)
optional_plain k (Some n) h = natural_plain k n h

string_plain : (k : ℕ) (s : List ℕ) → IsPlain k (string s)
string_plain k s = record { numbers = tt; low = omega arith }

true_plain : (k : ℕ) → IsPlain k (boolean true)
true_plain k = record { numbers = tt; low = omega arith }

string_items : (texts : List (List ℕ)) → ItemsHaveNumbers (items_of (map (λ text. string text) texts))
string_items [] = tt
string_items (t ∷ ts) = (tt, string_items ts)

string_depth : (texts : List (List ℕ)) → items_depth (items_of (map (λ text. string text) texts)) ≤ 0
string_depth [] = omega arith
string_depth (t ∷ ts) = omega (arith, string_depth ts)

strings_plain : (texts : List (List ℕ)) → IsPlain 1 (strings_of texts)
strings_plain texts = record { numbers = string_items texts; low = omega (arith, string_depth texts) }

abbrev ArePlain : ℕ → List Part → Type 0
ArePlain k [] = ⊤
ArePlain k (p ∷ ps) = IsPlain k p.1 × ArePlain k ps

record AreMembers (k : ℕ) (ms : Members) : Type 0 where
  numbers : MembersHaveNumbers ms
  low : members_depth ms ≤ k

flat_plain : (k : ℕ) (names : List (List ℕ)) (ps : List Part) → ArePlain k ps → AreMembers k (members_of (flat names ps []))
flat_plain k [] ps h = record { numbers = tt; low = omega arith }
flat_plain k (name ∷ names) [] h = record { numbers = tt; low = omega arith }
flat_plain k (name ∷ names) (p ∷ ps) h = go p.0 h.0 (flat_plain k names ps h.1)
  where
    go : (b : Bool) → IsPlain k p.1 → AreMembers k (members_of (flat names ps [])) → AreMembers k (members_of (cond b ((name, p.1) ∷ flat names ps []) (flat names ps [])))
    go true one rest = record { numbers = (one.numbers, rest.numbers); low = omega (arith, one.low, rest.low) }
    go false one rest = rest

members_plain : (k : ℕ) (ms : List Member) (names : List (List ℕ)) (ps : List Part) → ms ≡ flat names ps [] → ArePlain k ps → IsPlain (suc k) (object_of ms)
members_plain k ms names ps e h = let are = flat_plain k names ps h in rw e (record { numbers = are.numbers; low = omega (arith, are.low) })

stop_lwp_low : (s : State) → IsState s → IsOptional (stop_lwp s)
stop_lwp_low (state.Trace t i c) h = h.0
stop_lwp_low s h = tt

status_low : (s : State) → IsState s → IsOptional (status_of s)
status_low (state.Zombie w) h = h
status_low s h = tt

process_plain : (u : ℕ) (p : ProcData) → IsProcess u p → IsPlain 2 (process_value p)
process_plain u p h =
    members_plain 1 _ process_names (process_parts p) (process_flat p) (
      natural_plain 1 p.pid h.pid,
      (
        natural_plain 1 p.parent h.parent,
        (
          optional_plain 1 p.tracer h.tracer,
          (
            string_plain 1 _,
            (
              string_plain 1 _,
              (
                true_plain 1,
                (
                  optional_plain 1 (stop_lwp p.state) (stop_lwp_low p.state h.state),
                  (
                    optional_plain 1 (status_of p.state) (status_low p.state h.state),
                    (true_plain 1, (strings_plain _, (strings_plain _, (strings_plain _, (strings_plain _, tt))))),
                  ),
                ),
              ),
            ),
          ),
        ),
      ),
    )

argument_optional : (m : Mode) → IsMode m → argument_or_0 (call_in m) < 2 ^ 32
argument_optional (mode.InCall c) h = argument_low c h
argument_optional m h = omega arith

vfork_low : (m : Mode) → IsMode m → IsOptional (vfork_child m)
vfork_low (mode.VforkWait child) h = h
vfork_low m h = tt

lwp_plain : (l : LwpData) → IsLwp l → IsPlain 2 (lwp_value l)
lwp_plain l h =
    members_plain 1 _ lwp_names (lwp_parts l) (lwp_flat l) (
      natural_plain 1 l.tid h.tid,
      (
        natural_plain 1 l.pid h.pid,
        (
          string_plain 1 _,
          (
            string_plain 1 _,
            (
              natural_plain 1 _ (argument_optional l.mode h.mode),
              (
                optional_plain 1 (vfork_child l.mode) (vfork_low l.mode h.mode),
                (
                  true_plain 1,
                  (
                    true_plain 1,
                    (
                      strings_plain _,
                      (
                        strings_plain _,
                        (
                          string_plain 1 _,
                          (
                            strings_plain _,
                            (natural_plain 1 l.child h.child, (natural_plain 1 l.code h.code, tt)),
                          ),
                        ),
                      ),
                    ),
                  ),
                ),
              ),
            ),
          ),
        ),
      ),
    )

record AreItems (k : ℕ) (js : List Json) : Type 0 where
  numbers : ItemsHaveNumbers (items_of js)
  low : items_depth (items_of js) ≤ k

one_more : (k : ℕ) (j : Json) (js : List Json) → IsPlain k j → AreItems k js → AreItems k (j ∷ js)
one_more k j js one rest = record { numbers = (one.numbers, rest.numbers); low = omega (arith, one.low, rest.low) }

processes_plain : (u : ℕ) (ps : List ProcData) → AreProcesses u ps → AreItems 2 (map (λ p. process_value p) ps)
processes_plain u [] h = record { numbers = tt; low = omega arith }
processes_plain u (p ∷ ps) h = one_more 2 (process_value p) _ (process_plain u p h.0) (processes_plain u ps h.1)

lwps_plain : (ls : List LwpData) → AreLwps ls → AreItems 2 (map (λ l. lwp_value l) ls)
lwps_plain [] h = record { numbers = tt; low = omega arith }
lwps_plain (l ∷ ls) h = one_more 2 (lwp_value l) _ (lwp_plain l h.0) (lwps_plain ls h.1)

items_plain : (k : ℕ) (js : List Json) → AreItems k js → IsPlain (suc k) (array (items_of js))
items_plain k js are = record { numbers = are.numbers; low = omega (arith, are.low) }

pub rows_plain : (u : ℕ) (v : View) → AreProcesses u v.processes → AreLwps v.lwps → IsPlain 4 (object_of (rows_members v))
rows_plain u v h i = members_plain 3 _ rows_names (rows_parts v) (rows_flat v) (items_plain 2 _ (processes_plain u v.processes h), (items_plain 2 _ (lwps_plain v.lwps i), tt))
