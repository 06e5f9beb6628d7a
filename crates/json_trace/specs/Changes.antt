-- What a step changed of the rows that its user sees, and the lines that also tell this.
use Rattle.std.specs.Prelude.{◌≡◌, ℕ, ◌==◌, ◌+◌, Bool, not, false, List, [], ◌∷◌, ◌++◌, Option, Some, None, codes, count_by, filter, find, is_none, length, map}
use Rattle.std.specs.Option.{option_map_or}
use Rattle.lwp_table.specs.declared.LwpData.{LwpData}
use Rattle.proc_table.specs.declared.ProcData.{ProcData}
use Rattle.step_types.specs.{Plain.UserStep, declared.Reply.Reply}
use Rattle.requests.specs.{Machine.{Machine, empty}, Step.step, View.{View, view}}
use Rattle.visibility.specs.Same.{same_lwp, same_process}
use Rattle.scenario_text.specs.Plan.{Plan}
use Rattle.scenario_runs.specs.{Lines.Line}
use Rattle.reply_json.specs.Objects.{Json, Member, json_text, numbers_of, object_of}
use Rattle.json_trace.specs.{Rows.{listed_member, lwp_value, process_value}, Traces.{chosen, traced_members}}

module _ {R : Type 0} (number : R → ℕ) where
  -- the row with this number
  abbrev pub numbered : ℕ → List R → Option R
  numbered n rows = find (λ r. number r == n) rows

  -- the rows that are new, or not as they were
  abbrev pub changed : (same : R → R → Bool) → (before after : List R) → List R
  changed same before after = filter (λ r. not (option_map_or (λ old. same old r) (numbered (number r) before) false)) after

  -- the numbers of the rows that are gone
  abbrev pub removed : (before after : List R) → List ℕ
  removed before after = map number (filter (λ r. is_none (numbered (number r) after)) before)

unfoldable pub removed_member : List ℕ → List ℕ → List Member
removed_member name [] = []
removed_member name (n ∷ ns) = (name, numbers_of (n ∷ ns)) ∷ []

unfoldable pub changes_members : (ps : List ProcData) → (ls : List LwpData) → (after : View) → List Member
changes_members ps ls after =
    listed_member (codes "processes") (map process_value (changed (λ p. p.pid) same_process ps after.processes))
    ++ (listed_member (codes "lwps") (map lwp_value (changed (λ l. l.tid) same_lwp ls after.lwps))
    ++ (removed_member (codes "removed_processes") (removed (λ p. p.pid) ps after.processes)
    ++ removed_member (codes "removed_lwps") (removed (λ l. l.tid) ls after.lwps)))

-- the members of a user's n-th step, with what it changed of what the user sees
abbrev pub rows_members : ℕ → ℕ → UserStep → Reply → (ps : List ProcData) → (ls : List LwpData) → (after : View) → List Member
rows_members n index a r ps ls after = traced_members n index a r ++ ((codes "rows", object_of (changes_members ps ls after)) ∷ [])

-- the line; 10 is a line feed
abbrev pub rows_line : ℕ → ℕ → UserStep → Reply → (ps : List ProcData) → (ls : List LwpData) → (after : View) → Line
rows_line n index a r ps ls after = record { uid = a.uid; text = json_text (object_of (rows_members n index a r ps ls after)) ++ (10 ∷ []) }

-- the lines of the machine's run; `before` has the users of the steps before
abbrev pub rows_after : List ℕ → List UserStep → Machine → List Line
rows_after before [] m = []
rows_after before (a ∷ rest) m =
    let made = step a.uid a.step m in
    let seen = view a.uid m in
    rows_line (count_by (λ u. u == a.uid) before + 1) (length before + 1) a made.reply seen.processes seen.lwps (view a.uid made.machine) ∷ rows_after (a.uid ∷ before) rest made.machine

-- the text of the machine's run, from an unused host: of all lines, or of one user's
abbrev pub rows_shown : Option ℕ → Plan → List ℕ
rows_shown user plan = chosen user (rows_after [] plan.steps (empty plan.settings))
