-- What users have seen, after one more step.
use Rattle.std.proofs.Common.{◌≡◌, ◌≢◌, ℕ, ◌+◌, ◌∷◌, ◌++◌, ◌∙◌, [], List, None, Option, Some, true, false, ap, get_or, length, map, refl, set, subst, sym, arith, inl, inr, replicate}
use Rattle.std.proofs.lemmas.Bool.{cases_eq}
use Rattle.std.proofs.lemmas.Bool.Decides.{nat_tests}
use Rattle.std.proofs.lemmas.List.{get_or-replicate, get_or-set_other, get_or-set_same}
use Rattle.lwp_table.specs.Lwps.{Once}
use Rattle.pid_blocks.specs.{Blocks.slot, Users.IsUser}
use Rattle.requests.specs.{Isolation.{Apart, host_after, reply_of}, Machine.Machine, View.{View, view}}
use Rattle.requests.proofs.IsolationLaws.{other_step}
use Rattle.step_types.specs.{Plain.{PlainStep, UserStep}, declared.Reply.Reply}
use Rattle.scenario_text.specs.Plan.{asked}
use Rattle.scenario_runs.specs.Lines.{shows}
use Rattle.scenario_runs.proofs.LineLemmas.{replies_to}
use Rattle.visibility.specs.Numbers.{NumbersDiffer}
use Rattle.json_trace.specs.{Changes.{rows_after, rows_line}, Seen.{lwps_in, processes_in}, Traces.chosen}
use Rattle.json_trace.proofs.TraceLemmas.{chosen-other, chosen-shown}

-- these are the rows of the view, and their numbers differ
pub record HasSeen (o : Option View) (v : View) : Type 0 where
  pub processes : processes_in o ≡ v.processes
  pub lwps : lwps_in o ≡ v.lwps
  pub once_processes : Once (λ p. p.pid) (processes_in o)
  pub once_lwps : Once (λ l. l.tid) (lwps_in o)

pub seen-now : (v : View) → NumbersDiffer v → HasSeen (Some v) v
seen-now v differ = record { processes = refl; lwps = refl; once_processes = differ.processes; once_lwps = differ.lwps }

slots-differ : (u w : ℕ) → IsUser u → IsUser w → u ≢ w → slot u ≢ slot w
slots-differ u w user other apart same = apart (omega (arith, user.0, user.1, other.0, other.1, same))

-- a step of a user leaves what the others have seen
pub seen-still : (views : List (Option View)) (m : Machine) (u w : ℕ) (s : PlainStep) → IsUser u → IsUser w → u ≢ w → Apart m → HasSeen (get_or views (slot w) None) (view w m) → HasSeen (get_or views (slot w) None) (view w (host_after u s m))
seen-still views m u w s user other apart is had = subst (HasSeen (get_or views (slot w) None)) (sym (other_step m w u s other user (λ same. apart (sym same)) is)) had

-- and the user's own line notes what the user sees
pub seen-more : (views : List (Option View)) (m : Machine) (u : ℕ) (s : PlainStep) (v : View) (user : Option ℕ) → IsUser u → length views ≡ 64 → Apart m → v ≡ view u (host_after u s m) → NumbersDiffer v
    → ((w : ℕ) → IsUser w → shows user w ≡ true → HasSeen (get_or views (slot w) None) (view w m))
    → (w : ℕ) → IsUser w → shows user w ≡ true → HasSeen (get_or (set views (slot u) (Some v)) (slot w) None) (view w (host_after u s m))
seen-more views m u s v user is long apart now differ had w other shown = elim (cases_eq u w) [
  | inl same ↦
      let here : get_or (set views (slot u) (Some v)) (slot u) None ≡ Some v = get_or-set_same views (slot u) (Some v) None (omega (arith, long, is.0, is.1)) in
      subst (λ x. HasSeen (get_or (set views (slot u) (Some v)) (slot x) None) (view x (host_after u s m))) same (subst (λ o. HasSeen o (view u (host_after u s m))) (sym here) (subst (HasSeen (Some v)) now (seen-now v differ)))
  | inr off ↦
      let there : get_or (set views (slot u) (Some v)) (slot w) None ≡ get_or views (slot w) None = get_or-set_other views (slot u) (slot w) (Some v) None (λ same. slots-differ u w is other off (sym same)) in
      subst (λ o. HasSeen o (view w (host_after u s m))) (sym there) (seen-still views m u w s is other off apart (had w other shown))
]

-- the line of the next step, with what was seen and what is seen
pub rows-shown : (user : Option ℕ) (before : List ℕ) (x : ℕ × PlainStep) (steps rest : List UserStep) (m k : Machine) (number index : ℕ) (o : Option View) → shows user x.0 ≡ true → steps ≡ asked x ∷ rest → k ≡ host_after x.0 x.1 m
    → number ≡ replies_to x.0 before + 1 → index ≡ length before + 1 → HasSeen o (view x.0 m)
    → chosen user (rows_after before steps m) ≡ (rows_line number index (asked x) (reply_of x.0 x.1 m) (processes_in o) (lwps_in o) (view x.0 k)).text ++ chosen user (rows_after (x.0 ∷ before) rest k)
rows-shown user before x steps rest m k number index o is steps_is made number_is index_is seen =
    rw (steps_is, made, number_is, index_is, seen.processes, seen.lwps) (chosen-shown user (rows_line (replies_to x.0 before + 1) (length before + 1) (asked x) (reply_of x.0 x.1 m) (view x.0 m).processes (view x.0 m).lwps (view x.0 (host_after x.0 x.1 m))) (rows_after (x.0 ∷ before) rest (host_after x.0 x.1 m)) is)

pub rows-other : (user : Option ℕ) (before : List ℕ) (x : ℕ × PlainStep) (steps rest : List UserStep) (m k : Machine) → shows user x.0 ≡ false → steps ≡ asked x ∷ rest → k ≡ host_after x.0 x.1 m
    → chosen user (rows_after before steps m) ≡ chosen user (rows_after (x.0 ∷ before) rest k)
rows-other user before x steps rest m k is steps_is made =
    rw (steps_is, made) (chosen-other user (rows_line (replies_to x.0 before + 1) (length before + 1) (asked x) (reply_of x.0 x.1 m) (view x.0 m).processes (view x.0 m).lwps (view x.0 (host_after x.0 x.1 m))) (rows_after (x.0 ∷ before) rest (host_after x.0 x.1 m)) is)
