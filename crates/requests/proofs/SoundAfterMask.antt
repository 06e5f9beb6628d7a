-- Masks, steps and suspended LWPs of a traced process keep rows sound.
use Rattle.requests.proofs.CommonNames.{nat_tests, ◌≡◌, inl, ℕ, Bool, true, false, ◌==◌, ◌&&◌, if◌then◌else◌, Some, is_some, refl, ap, ◌∙◌, subst, eqb-true, arith, rules, EventMask, LwpData}
use Rattle.requests.proofs.CommonNames.{lwp_of, ProcData, is_live, process_of, Rows, change, Settings, resume, names_own, FitProcess, Standing, FitLwp, WithOwner, IsSound}
use Rattle.requests.proofs.CommonNames.{and_left, and_right, find_some, any_holds, choose, find_edit, changed_row, live_fits, live_state, process_sound}
use Rattle.requests.proofs.CommonNames.{lwp_sound, resume_sound, own_lwps, suspend, set_mask, resumes, Resumption, Stepping}

-- a live traced process in sound rows
pub record Tracee (rows : Rows) (p : ProcData) : Type 0 where
  pub sound : IsSound rows
  pub home : process_of p.pid rows.processes ≡ Some p
  pub live : is_live p ≡ true
  pub traced : is_some p.tracer ≡ true

-- an LWP of it, by its number
pub record OwnLwp (rows : Rows) (p : ProcData) (tid : ℕ) : Type 0 where
  pub lwp : LwpData
  pub there : lwp_of tid rows.lwps ≡ Some lwp
  pub own : lwp.pid ≡ p.pid

pub named_lwp : (rows : Rows) (p : ProcData) (tid : ℕ) → IsSound rows → names_own rows p tid ≡ true → OwnLwp rows p tid
named_lwp rows p tid s named = grind (arith, nat_tests, any_holds (λ l. (l.tid == tid) && (l.pid == p.pid)) (λ l. lwp_of l.tid rows.lwps ≡ Some l) (OwnLwp rows p tid) (λ l at is. record { lwp = l; there = subst (λ n. lwp_of n rows.lwps ≡ Some l) (eqb-true l.tid tid (and_left (l.tid == tid) (l.pid == p.pid) is)) at; own = eqb-true l.pid p.pid (and_right (l.tid == tid) (l.pid == p.pid) is) }) rows.lwps (own_lwps rows.lwps s.stands.differ) named, eqb-true, and_left, and_right)

-- rows that are found after a change

pub changed_process : (n : ℕ) (chosen : ProcData → Bool) (f : ProcData → ProcData) (g : ProcData → LwpData → LwpData) (rows : Rows) (p : ProcData) → ((q : ProcData) → (f q).pid ≡ q.pid)
    → process_of n rows.processes ≡ Some p → process_of n (change chosen f g rows).processes ≡ Some (if chosen p then f p else p)
changed_process n chosen f g rows p same at = changed_row n chosen f rows.processes p same at

pub changed_lwp : (n : ℕ) (chosen : ProcData → Bool) (f : ProcData → ProcData) (g : ProcData → LwpData → LwpData) (rows : Rows) (l : LwpData) (p : ProcData) → ((q : ProcData) (k : LwpData) → (g q k).tid ≡ k.tid)
    → lwp_of n rows.lwps ≡ Some l → process_of l.pid rows.processes ≡ Some p → lwp_of n (change chosen f g rows).lwps ≡ Some (if chosen p then g p l else l)
changed_lwp n chosen f g rows l p same there home = search (rules, find_edit, choose)

-- No LWP steps

pub stepless_fits : (p : ProcData) (l : LwpData) → FitLwp p l → FitLwp p (record l { stepping = false })
stepless_fits p l fit = grind (arith, nat_tests)

module _ (rows : Rows) (p : ProcData) (t : Tracee rows p) where
  its_fit : FitProcess p
  its_fit = (find_some (λ q. q.pid == p.pid) FitProcess rows.processes t.sound.processes p t.home).0

  -- An LWP of it

  module _ (tid : ℕ) (o : OwnLwp rows p tid) where
    owner_is : process_of o.lwp.pid rows.processes ≡ Some p
    owner_is = ap (λ n. process_of n rows.processes) o.own ∙ t.home

    pub suspend_sound : (on : Bool) → IsSound (suspend on tid rows)
    suspend_sound on = lwp_sound rows tid p o.lwp (λ l. record l { suspended = on }) t.sound o.there owner_is (record { same = λ k. (refl, refl, refl); waits = ((find_some (λ k. k.tid == tid) (WithOwner rows (Standing rows)) rows.lwps t.sound.stands.standing o.lwp o.there).0 p owner_is).waits; fit = λ fit. grind (arith, nat_tests, t.traced) })

  -- Its mask

  abbrev masked : (EventMask → EventMask) → ProcData → ProcData
  masked mask q = record q { mask = mask q.mask }

  pub set_mask_sound : (mask : EventMask → EventMask) → IsSound (set_mask mask p.pid rows)
  set_mask_sound mask = process_sound rows p.pid p (masked mask) t.sound t.home (record { same = λ q. (refl, refl, refl, refl); live = refl; named = inl refl; fits = grind (arith, nat_tests, its_fit, live_fits, live_state, t.traced, t.live); fit_lwp = λ l fit. grind (arith, nat_tests, t.traced) })

  pub resumes_sound : (settings : Settings) (how : Resumption) → IsSound (resume settings how p.pid rows)
  resumes_sound settings how = resume_sound settings rows p.pid p t.sound t.home t.live t.traced how

  pub continues_sound : (settings : Settings) (adds : EventMask) (stepping : Stepping) (sig : ℕ) → IsSound (resumes settings adds stepping sig p rows).rows
  continues_sound settings adds stepping sig = resumes_sound settings (record { adds = adds; stepping = stepping; pass = sig })
