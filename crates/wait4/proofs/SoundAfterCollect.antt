-- Collecting a status keeps rows sound.
use Rattle.wait4.proofs.CommonNames.{ℤ, w64, SFits, to_z, of_z, arith, ◌≡◌, ℕ, false, ◌==◌, if◌then◌else◌, Option, Some, None, refl, nat_tests, LwpData, ProcData, is_live, process_of, Rows, each}
use Rattle.wait4.proofs.CommonNames.{FitProcess, FitLwp, IsSound, MayTell, Row, Same, Edit, Stay, nobody, holds_sound, sound_holds, row_at, none_gone, no_ring, stay, lives_after, edit_holds}
use Rattle.wait4.proofs.CommonNames.{zero_apart, live_told, notified_sound, to_z-of_z, own_rows, Options, reported, collected, told, collect_one}
use Rattle.wait4.proofs.Candidates.{reported-has}

-- a collection leaves none of a zombie's row, or the row of the same process
pub record Kept (q r : ProcData) : Type 0 where
  pub pid : r.pid ≡ q.pid

pub by_kept : (caller : ℕ) (p q : ProcData) (R : Option ProcData → Type 0) → (is_live q ≡ false → R None) → ((r : ProcData) → Kept q r → R (Some r)) → R (if q.pid == p.pid then collected caller q else Some q)
by_kept caller p q R gone left = grind (arith, nat_tests, gone, left)

module _ (caller : ℕ) (p : ProcData) (rows : Rows) (s : IsSound rows) (at : process_of p.pid rows.processes ≡ Some p) where
  abbrev to : ProcData → Option ProcData
  to q = if q.pid == p.pid then collected caller q else Some q

  abbrev to_lwp : ProcData → LwpData → Option LwpData
  to_lwp q l = Some l

  abbrev made : Rows
  made = each to to_lwp rows

  same : Same to to_lwp
  same = grind (arith, nat_tests)

  stay_on : (q : ProcData) → Row rows FitProcess q → Stay rows made q
  stay_on q row = stay rows to to_lwp same q row.at (λ l. (l, refl))

  the_edit : Edit rows nobody to to_lwp FitProcess FitLwp FitProcess FitLwp
  the_edit = record {
    same = same;
    ring = no_ring to rows.processes s.stands.rising same.process (λ q. grind (arith, nat_tests));
    gone = none_gone rows FitProcess to_lwp;
    process = λ q row. grind (arith, nat_tests, row.link, row.fact, stay_on q row, zero_apart);
    lwp = λ q l b on. grind (arith, nat_tests, b.stood, b.fact, stay_on q b.row);
  }

  pub collect_sound : IsSound (collect_one caller p rows)
  collect_sound = notified_sound made (told caller p) (sound_holds made (edit_holds rows nobody to to_lwp FitProcess FitLwp FitProcess FitLwp (holds_sound rows s) the_edit)) (grind (arith, tell))
    where
      tell : MayTell made p.parent
      tell ne = live_told made p.uid p.parent (lives_after rows nobody to to_lwp FitProcess FitLwp FitProcess FitLwp (holds_sound rows s) the_edit p.uid p.parent ((row_at rows (holds_sound rows s) p.pid p at).link.parent ne, refl)) ne

-- what holds of a reported process, if the wait reads a signed number of 64 bits
module _ (caller : ℕ) (which : ℤ) (fit : SFits w64 which) (options : Options) (rows : Rows) (s : IsSound rows) (p : ProcData) (is : reported caller (to_z w64 (of_z w64 which)) options rows ≡ Some p) where
  pub reported_row : process_of p.pid rows.processes ≡ Some p
  reported_row = reported-has (λ q. process_of q.pid rows.processes ≡ Some q) caller which options rows p (own_rows rows.processes s.stands.rising) (rw (to_z-of_z w64 which fit) at is)

  pub reported_fits : FitProcess p
  reported_fits = reported-has FitProcess caller which options rows p s.processes (rw (to_z-of_z w64 which fit) at is)
