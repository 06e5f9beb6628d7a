-- What edits of rows ask, and rows that are found after changes that keep numbers.
use Rattle.proc_table.proofs.CommonNames.{◌≡◌, ◌∙◌, ℕ, refl, inl, inr, nat_eq, Some, None, IsSome, rules, IsSomeAnd, cases_Bool, LwpData, lwp_of, ProcData, process_of, Rows, own_lwp, TableInvariant}
use Rattle.proc_table.proofs.CommonNames.{Named, set_process}
use Rattle.proc_table.proofs.Every.{every_found}
use Rattle.proc_table.proofs.Finds.{find-set}
use Rattle.proc_table.proofs.Rows.{same_number}
use Rattle.proc_table.proofs.Changes.{changed, changed_lwp}

pub changed-pid : (n : ℕ) (f : ProcData → ProcData) → ((p : ProcData) → (f p).pid ≡ p.pid) → (p : ProcData) → (changed n f p).pid ≡ p.pid
changed-pid n f same p = elim (cases_Bool (nat_eq p.pid n)) [ inl e ↦ rw e (same p) | inr e ↦ rw e refl ]

module _ (view : LwpData → ℕ) (f : LwpData → LwpData) (same : (l : LwpData) → view (f l) ≡ view l) where
  pub changed_lwp-keeps : (n : ℕ) (l : LwpData) → view (changed_lwp n f l) ≡ view l
  changed_lwp-keeps n l = elim (cases_Bool (nat_eq l.tid n)) [ inl e ↦ rw e (same l) | inr e ↦ rw e refl ]

  pub own_lwp-keeps : (n : ℕ) (l : LwpData) → view (own_lwp n f l) ≡ view l
  own_lwp-keeps n l = elim (cases_Bool (nat_eq l.pid n)) [ inl e ↦ rw e (same l) | inr e ↦ rw e refl ]

-- the new row is found by its number
pub process-set : (new : ProcData) (rows : Rows) → IsSome (process_of new.pid rows.processes) → process_of new.pid (set_process new rows).processes ≡ Some new
process-set new rows there = find-set new rows.processes there new.pid ∙ rw (same_number new.pid) refl

-- what an edit of the row of a process asks
module _ (rows : Rows) (p new : ProcData) (at : process_of new.pid rows.processes ≡ Some p) where
  pub process_there : p.uid ≡ new.uid → IsSomeAnd (process_of new.pid rows.processes) (λ was. was.uid ≡ new.uid)
  process_there same = rw at same

  pub named-same : TableInvariant rows → new.tracer ≡ p.tracer → new.parent ≡ p.parent → Named rows new
  named-same kept tracer parent = search (rules, every_found)

  pub named-untraced : TableInvariant rows → new.tracer ≡ None → new.parent ≡ p.parent → Named rows new
  named-untraced kept tracer parent = search (rules, every_found)

-- and of an LWP
pub lwp_there : (rows : Rows) (l new : LwpData) → lwp_of new.tid rows.lwps ≡ Some l → l.pid ≡ new.pid → IsSomeAnd (lwp_of new.tid rows.lwps) (λ was. was.pid ≡ new.pid)
lwp_there rows l new at same = rw at same
