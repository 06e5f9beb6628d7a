-- A change of chosen processes and of their LWPs.
use Rattle.trace_rows.proofs.CommonNames.{nat_tests, LwpData, ProcData, is_live, reporting, process_of, Rows, change, each, ◌≡◌, ◌⊎◌, inl, ℕ, ◌==◌, List, filter_map, Bool, true, false, if◌then◌else◌, Option, Some, None, refl, eq-eqb, arith}
use Rattle.trace_rows.proofs.Every.{choose}
use Rattle.trace_rows.proofs.Edited.{find_edit}
use Rattle.trace_rows.proofs.SoundAfterEdit.{Holds, Row, Beside, Same, KeptRow, Stay, nobody, none_gone, like_self, kept_all, no_ring, stay, edit_holds}

-- the row of a process after a change of chosen ones
pub changed_row : (n : ℕ) (chosen : ProcData → Bool) (f : ProcData → ProcData) (ps : List ProcData) (p : ProcData) → ((q : ProcData) → (f q).pid ≡ q.pid) → process_of n ps ≡ Some p → process_of n (filter_map (λ q. Some (if chosen q then f q else q)) ps) ≡ Some (if chosen p then f p else p)
changed_row n chosen f ps p same at = find_edit (λ q. q.pid == n) (λ q. Some (if chosen q then f q else q)) (λ q. grind (arith, nat_tests, same q)) ps p _ at refl

pub changed_own : (p : ProcData) (f : ProcData → ProcData) (ps : List ProcData) → ((q : ProcData) → (f q).pid ≡ q.pid) → process_of p.pid ps ≡ Some p → process_of p.pid (filter_map (λ q. Some (if q.pid == p.pid then f q else q)) ps) ≡ Some (f p)
changed_own p f ps same at = rw (eq-eqb p.pid p.pid refl) at (changed_row p.pid (λ q. q.pid == p.pid) f ps p same at)

-- what a change leaves of a process
abbrev pub Alike : ProcData → ProcData → Type 0
Alike p q = (q.pid ≡ p.pid) × (q.uid ≡ p.uid) × (q.tracer ≡ p.tracer) × (q.parent ≡ p.parent)

-- what a change asks of the chosen processes, and of the others
pub record Changes (rows : Rows) (chosen : ProcData → Bool) (f : ProcData → ProcData) (g : ProcData → LwpData → LwpData)
    (P : ProcData → Type 0) (Q : ProcData → LwpData → Type 0) (P' : ProcData → Type 0) (Q' : ProcData → LwpData → Type 0) : Type 0 where
  pub same : (p : ProcData) → Alike p (f p)
  pub same_lwp : (p : ProcData) (l : LwpData) → ((g p l).tid ≡ l.tid) × ((g p l).pid ≡ l.pid) × ((g p l).flags ≡ l.flags) × ((g p l).mode ≡ l.mode)
  pub live : (p : ProcData) → Row rows P p → chosen p ≡ true → is_live (f p) ≡ is_live p
  pub named : (p : ProcData) → Row rows P p → chosen p ≡ true → (reporting (f p) ≡ reporting p) ⊎ (reporting (f p) ≡ None)
  pub fits : (p : ProcData) → Row rows P p → chosen p ≡ true → P' (f p)
  pub rest : (p : ProcData) → Row rows P p → chosen p ≡ false → P' p
  pub fit_lwp : (p : ProcData) (l : LwpData) → Beside rows P Q p l → chosen p ≡ true → Q' (f p) (g p l)
  pub rest_lwp : (p : ProcData) (l : LwpData) → Beside rows P Q p l → chosen p ≡ false → Q' p l

module _ (rows : Rows) (chosen : ProcData → Bool) (f : ProcData → ProcData) (g : ProcData → LwpData → LwpData)
    (P : ProcData → Type 0) (Q : ProcData → LwpData → Type 0) (P' : ProcData → Type 0) (Q' : ProcData → LwpData → Type 0)
    (s : Holds P Q rows) (c : Changes rows chosen f g P Q P' Q') where
  abbrev to : ProcData → Option ProcData
  to p = Some (if chosen p then f p else p)

  abbrev to_lwp : ProcData → LwpData → Option LwpData
  to_lwp p l = Some (if chosen p then g p l else l)

  same : Same to to_lwp
  same = grind (arith, nat_tests)

  stays : (p : ProcData) → Row rows P p → Stay rows (each to to_lwp rows) p
  stays p row = stay rows to to_lwp same p row.at (λ l. (if chosen p then g p l else l, refl))

  pub changes_hold : Holds P' Q' (change chosen f g rows)
  changes_hold = edit_holds rows nobody to to_lwp P Q P' Q' s (record {
    same = same;
    ring = no_ring to rows.processes s.stands.rising same.process (λ p. grind (arith, c.same p));
    gone = none_gone rows P to_lwp;
    process = λ p row. choose (chosen p) (f p) p (KeptRow rows (each to to_lwp rows) nobody P' p)
        (λ e. kept_all row (record { live = c.live p row e; tracer = inl (c.same p).2; parent = (c.same p).3 }) (c.named p row e) (stays p row) (c.fits p row e))
        (λ e. kept_all row (like_self p) (inl refl) (stays p row) (c.rest p row e));
    lwp = λ p l b on. grind (arith, b.stood, c.same_lwp p l, c.fit_lwp p l b, c.rest_lwp p l b, stays p b.row);
  })
