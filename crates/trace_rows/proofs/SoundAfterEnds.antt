-- Ends keep rows sound, if each live process whose tracer ends also ends.
use Rattle.trace_rows.proofs.CommonNames.{nat_tests, AllByRecursion, SIGKILL, LwpData, ProcData, is_live, Rows, each, keep, not, process_after, released, lwp_after, collector, notifies_of, end_each, is_end, IsLiveOf, IsLiveChild, Linked}
use Rattle.trace_rows.proofs.CommonNames.{FitProcess, waited_for, FitLwp, IsSound, MayTell, ◌≡◌, ℕ, Bool, true, false, ◌==◌, if◌then◌else◌, filter_map, option_map, Option, None, IfSome, refl, sym, ◌∙◌, arith}
use Rattle.trace_rows.proofs.SoundAfterEdit.{LivesOn, IfKept, KeptLwp, linked_at}
use Rattle.trace_rows.proofs.Settling.{zero_apart}
use Rattle.trace_rows.proofs.CommonLemmas.{All-both, All-edit, choose, if_from, Beside, Holds, Row, Same, Stay, Edit, sound_holds, all_rows, no_ring, stay, edit_holds, live_told, notified_sound}

-- which rows end, as numbers and as rows; a process that lives on keeps its tracer
pub record Ends (rows : Rows) (ends : ProcData → Bool) (over : ℕ → Bool) (q : ProcData) : Type 0 where
  pub same : over q.pid ≡ ends q
  pub live : ends q ≡ true → is_live q ≡ true
  pub kept : is_live q ≡ true → ends q ≡ false → IfSome q.tracer (λ t. over t ≡ false)

abbrev Fact : Rows → (ProcData → Bool) → (ℕ → Bool) → ProcData → Type 0
Fact rows ends over q = FitProcess q × Ends rows ends over q

-- an LWP whose vfork wait may be over
module _ (over : ℕ → Bool) (q : ProcData) (l : LwpData) where
  pub released_same : ((released over q l).tid ≡ l.tid) × ((released over q l).pid ≡ l.pid)
  released_same = grind (arith, nat_tests)

  pub released_flags : (released over q l).flags ≡ l.flags
  released_flags = grind (arith, nat_tests)

  pub released_fits : FitLwp q l → FitLwp q (released over q l)
  released_fits fit = grind (arith, nat_tests)

  -- it waits for a child that isn't over
  pub released_waits : (R : ℕ → Type 0) → IfSome (waited_for l.mode) R → IfSome (waited_for (released over q l).mode) (λ c. R c × (over c ≡ false))
  released_waits R child = grind (arith, nat_tests)

module _ (rows : Rows) (ends : ProcData → Bool) (over : ℕ → Bool) (p status : ℕ) (s : IsSound rows) (word : is_end status ≡ true) (all : AllByRecursion (Ends rows ends over) rows.processes) where
  abbrev to : ProcData → Option ProcData
  to q = process_after ends over p status q

  abbrev to_lwp : ProcData → LwpData → Option LwpData
  to_lwp q l = lwp_after ends over q l

  abbrev after : Rows
  after = each to to_lwp rows

  held : Holds (Fact rows ends over) FitLwp rows
  held = record { stands = s.stands; processes = All-both FitProcess (Ends rows ends over) rows.processes s.processes all; lwps = s.lwps }

  same : Same to to_lwp
  same = grind (arith, nat_tests)

  -- the LWPs of a process that lives on
  stays : (q : ProcData) → Row rows (Fact rows ends over) q → ends q ≡ false → Stay rows after q
  stays q row e = stay rows to to_lwp same q row.at (λ l. (released over q l, rw e refl))

  tracer_left : (u : ℕ) (o : Option ℕ) → IfSome o (IsLiveOf rows u) → IfSome (keep (λ t. not (over t)) o) (LivesOn rows over u)
  tracer_left u o live = grind (arith, live)

  last_word : (q : ProcData) → is_end (if q.pid == p then status else SIGKILL) ≡ true
  last_word q = grind (arith, nat_tests)

  kept : (q : ProcData) → Row rows (Fact rows ends over) q → IfKept rows after over FitProcess q (to q)
  kept q row = grind (arith, nat_tests, row.link, row.fact, tracer_left q.uid q.tracer, last_word q, zero_apart, stays q row)

  lwp_kept : (q : ProcData) (l : LwpData) → Beside rows (Fact rows ends over) FitLwp q l → over q.pid ≡ false → IfSome (to q) (λ r. IfSome (to_lwp q l) (KeptLwp rows after over FitLwp q r))
  lwp_kept q l b on = grind (arith, nat_tests, b.stood, b.row.fact.1.same, on, stays q b.row, released_flags over q l, released_waits over q l (IsLiveChild rows q), released_fits over q l b.fact)

  the_edit : Edit rows over to to_lwp (Fact rows ends over) FitLwp FitProcess FitLwp
  the_edit = record {
    same = same;
    ring = no_ring to rows.processes s.stands.rising same.process (λ q. grind (arith, nat_tests));
    gone = λ q l row is. rw (sym row.fact.1.same ∙ is) refl;
    process = kept;
    lwp = lwp_kept;
  }

  told_row : (q : ProcData) → Row rows (Fact rows ends over) q → IfSome (notifies_of ends over p status q) (MayTell after)
  told_row q row = choose _ (option_map collector (to q)) None (λ o. IfSome o (MayTell after)) (λ e. let all = if_from (Linked after) (to q) (λ z. linked_at rows over to to_lwp (Fact rows ends over) FitLwp FitProcess FitLwp held the_edit q z row) in grind (arith, all, live_told after)) (λ e. tt)

  pub end_each_sound : IsSound (end_each ends over p status rows)
  end_each_sound = notified_sound after (filter_map (notifies_of ends over p status) rows.processes) (sound_holds after (edit_holds rows over to to_lwp (Fact rows ends over) FitLwp FitProcess FitLwp held the_edit)) (All-edit (notifies_of ends over p status) (Row rows (Fact rows ends over)) (MayTell after) told_row rows.processes (all_rows rows held))
