-- Processes that run on keep rows sound: an LWP that has exited is gone, and it isn't the last one.
use Rattle.trace_rows.proofs.CommonNames.{inr, ◌≡◌, ◌⊎◌, inl, ◌≤◌, Bool, true, false, ◌==◌, ◌&&◌, if◌then◌else◌, option_map, Option, Some, None, refl, arith, eqb-true, nat_tests, cases_lt, AllByRecursion, shows, PL_FLAG_EXITED, LwpData}
use Rattle.trace_rows.proofs.CommonNames.{ProcData, is_live, reporting, is_this, Rows, owner, by_owner, lwp_count, reported, run_on, FitProcess, Standing, FitLwp, Silent, WithOwner, IsSound}
use Rattle.std.proofs.Common.{unwrap_or}
use Rattle.proc_table.proofs.Every.{some_of}
use Rattle.trace_rows.proofs.Edited.{one_gone}
use Rattle.trace_rows.proofs.SoundAfterEdit.{one_left}
use Rattle.trace_rows.proofs.CommonLemmas.{All-both, count_kept, Row, Same, Stay, nobody, sound_holds, none_gone, no_ring, stay, edit_holds}

-- what a change of processes that run on asks
pub record Runs (chosen : ProcData → Bool) (f : ProcData → ProcData) (g : ProcData → LwpData → LwpData) (p : ProcData) : Type 0 where
  pub live : chosen p ≡ true → is_live p ≡ true
  pub fits : chosen p ≡ true → FitProcess p → FitProcess (f p)
  pub fit_lwp : chosen p ≡ true → (l : LwpData) → Silent l → FitLwp p l → FitLwp (f p) (g p l)

pub record Shape (f : ProcData → ProcData) (g : ProcData → LwpData → LwpData) : Type 0 where
  pub pid : (p : ProcData) → (f p).pid ≡ p.pid
  pub uid : (p : ProcData) → (f p).uid ≡ p.uid
  pub tracer : (p : ProcData) → ((f p).tracer ≡ p.tracer) ⊎ ((f p).tracer ≡ None)
  pub parent : (p : ProcData) → (f p).parent ≡ p.parent
  pub lives : (p : ProcData) → is_live (f p) ≡ true
  pub quiet : (p : ProcData) → reporting (f p) ≡ None
  pub tid : (p : ProcData) (l : LwpData) → (g p l).tid ≡ l.tid
  pub own : (p : ProcData) (l : LwpData) → (g p l).pid ≡ l.pid
  pub flags : (p : ProcData) (l : LwpData) → (g p l).flags ≡ l.flags
  pub mode : (p : ProcData) (l : LwpData) → (g p l).mode ≡ l.mode

module _ (rows : Rows) (chosen : ProcData → Bool) (f : ProcData → ProcData) (g : ProcData → LwpData → LwpData) (s : IsSound rows) (shape : Shape f g) (runs : AllByRecursion (Runs chosen f g) rows.processes) where
  abbrev Fact : ProcData → Type 0
  Fact p = FitProcess p × Runs chosen f g p

  abbrev to : ProcData → Option ProcData
  to p = Some (if chosen p then f p else p)

  abbrev to_own : ProcData → LwpData → Option LwpData
  to_own p l = if chosen p then option_map (g p) (reported p l) else Some l

  abbrev after : Rows
  after = run_on chosen f g rows

  same : Same to to_own
  same = grind (arith, shape)

  other : (p : ProcData) → Row rows Fact p → chosen p ≡ false → Stay rows after p
  other p row e = stay rows to to_own same p row.at (λ l. (l, rw e refl))

  -- a process that runs on has an LWP left
  peopled : (p : ProcData) → Row rows Fact p → chosen p ≡ true → 1 ≤ lwp_count p.pid after
  peopled p row c = elim (cases_lt (lwp_count p.pid rows) 2) [
    | inl few ↦ omega (arith, row.link.peopled (row.fact.1.live c), count_kept (λ l. l.pid == p.pid) (λ l. l.pid == p.pid) left (WithOwner rows (Standing rows)) (λ l stood own. kept l own (grind (arith, nat_tests, stood p, own, row.at, few))) rows.lwps s.stands.standing)
    | inr two ↦ omega (arith, two, one_gone (λ l. l.pid == p.pid) (unwrap_or (reporting p) 0) left (λ l not_this own. kept l own (grind (arith, nat_tests, not_this))) rows.lwps s.stands.differ)
  ]
    where
      left : LwpData → Option LwpData
      left l = by_owner to_own l (owner rows l)

      kept : (l : LwpData) → (l.pid == p.pid) ≡ true → (is_this l.tid (reporting p) && shows l.flags PL_FLAG_EXITED) ≡ false → (k : LwpData) × (left l ≡ Some k) × ((k.pid == p.pid) ≡ true)
      kept l own stay = grind (arith, nat_tests, own, some_of (to_own p l) (grind (arith, nat_tests, stay)), one_left rows to to_own same p row.at l (eqb-true l.pid p.pid own))

  silent_shows : (l : LwpData) → Silent l → shows l.flags PL_FLAG_EXITED ≡ false
  silent_shows l silent = rw silent.flags refl

  pub run_on_sound : IsSound (run_on chosen f g rows)
  run_on_sound = sound_holds after (edit_holds rows nobody to to_own Fact FitLwp FitProcess FitLwp (record { stands = s.stands; processes = All-both FitProcess (Runs chosen f g) rows.processes s.processes runs; lwps = s.lwps }) (record {
    same = same;
    ring = no_ring to rows.processes s.stands.rising same.process (λ p. grind (arith, shape.tracer p));
    gone = none_gone rows Fact to_own;
    process = λ p row. grind (arith, row.link, row.fact, shape, peopled p row, other p row);
    lwp = λ p l b on. grind (arith, nat_tests, b.fact, b.stood, b.row.fact.1, shape, silent_shows, other p b.row);
  }))
