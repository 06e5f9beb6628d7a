-- Pending signals that an LWP takes, and what they do, keep rows sound.
use Rattle.requests.proofs.CommonNames.{◌≡◌, ℕ, true, false, ◌==◌, not, [], ◌∷◌, Some, None, IfSome, is_some, refl, sym, ap, ◌∙◌, true≢false, subst, eqb-true, rules, le-leb, arith, nat_tests, has}
use Rattle.requests.proofs.CommonNames.{bit, without, SIGTRAP, is_signal, maskable, disposition_of, default_action, IsSignal, Action, LwpData, ProcData, Job, is_live, Rows, change_process, change_lwp}
use Rattle.requests.proofs.CommonNames.{Settings, unwanted, notified, end, stop, is_end, Linked, FitProcess, FitLwp, IsSound, both, by_bool, find_some, choose, changed_own, process_sound}
use Rattle.requests.proofs.CommonNames.{pending_fits, end_at, post_sound, Outcome, next_signal, without_signal, plain, takes_by_default, takes_untraced, takes, computes, raises}
use Rattle.signals.proofs.Members.{lowest-some}
use Rattle.trace_rows.proofs.Bits.{without_apart, without_less}
use Rattle.trace_rows.proofs.SoundAfterNotify.{live_told, notified_sound}
use Rattle.requests.proofs.SoundAfterActing.{Acting, its_live, its_quiet, its_fit, lwp_stands, lwp_fit, acting_lwp, acting_process, acting_stops}
use Rattle.requests.proofs.SoundAfterMask.{stepless_fits}

-- the row of the process and that of the LWP, with the same numbers and the same tracer and parent
pub record Alike (rows : Rows) (p : ProcData) (l : LwpData) : Type 0 where
  pub process : ProcData
  pub lwp : LwpData
  pub acting : Acting rows process lwp
  pub pid : process.pid ≡ p.pid
  pub tid : lwp.tid ≡ l.tid
  pub tracer : process.tracer ≡ p.tracer
  pub parent : process.parent ≡ p.parent

abbrev pub alike_of : {rows : Rows} {p : ProcData} {l : LwpData} (q : ProcData) (k : LwpData) → Acting rows q k → q.pid ≡ p.pid → k.tid ≡ l.tid → q.tracer ≡ p.tracer → q.parent ≡ p.parent → Alike rows p l
alike_of q k a number name tracer parent = record { process = q; lwp = k; acting = a; pid = number; tid = name; tracer = tracer; parent = parent }

-- fewer pending signals

fewer_pending : (p : ProcData) (s : ℕ) → FitProcess p → is_live p ≡ true → FitProcess (record p { pending = without p.pending (bit s) })
fewer_pending p s fit live = pending_fits p (without p.pending (bit s)) fit live (λ none. without_less p.pending (unwanted p) (bit s) (fit.untraced none).pending)

fewer_pending_lwp : (p : ProcData) (l : LwpData) (s : ℕ) → FitLwp p l → FitLwp p (record l { pending = without l.pending (bit s) })
fewer_pending_lwp p l s fit = search (rules, without_less)

module _ (rows : Rows) (p : ProcData) (l : LwpData) (a : Acting rows p l) where
  abbrev taken : ℕ → ProcData → ProcData
  taken s q = record q { pending = without q.pending (bit s) }

  abbrev taken_lwp : ℕ → LwpData → LwpData
  taken_lwp s k = record k { pending = without k.pending (bit s) }

  pub taken_alike : (s : ℕ) → Alike (without_signal s p l rows) p l
  taken_alike s = grind (arith, nat_tests, choose (has l.pending s) (change_lwp l.tid (taken_lwp s) rows) (change_process p.pid (taken s) rows) (λ r. Alike r p l) (λ e. alike_of p (taken_lwp s l) (acting_lwp rows p l a (taken_lwp s) (record { same = λ k. (refl, refl, refl); waits = (lwp_stands rows p l a).waits; fit = fewer_pending_lwp p l s })) refl refl refl refl) (grind (arith, nat_tests, acting_process, fewer_pending, its_fit, its_live)), fewer_pending_lwp p l s, acting_process, fewer_pending, its_fit, its_live)

  -- a stop for job control

  abbrev job_stopped : ℕ → ProcData → ProcData
  job_stopped s q = record q { state = Job s false; continued = false }

  -- its parent is notified
  pub job_stop_sound : (s : ℕ) → p.tracer ≡ None → IsSound (notified (p.parent ∷ []) (change_process p.pid (job_stopped s) rows))
  job_stop_sound s free =
      let made = change_process p.pid (job_stopped s) rows in
      let sound : IsSound made = process_sound rows p.pid p (job_stopped s) a.sound a.home (grind (arith, nat_tests, its_live rows p l a, its_fit rows p l a, its_quiet rows p l a, free)) in
      let found = changed_own p (job_stopped s) rows.processes (λ q. refl) a.home in
      notified_sound made (p.parent ∷ []) sound ((λ ne. live_told made p.uid p.parent ((find_some (λ q. q.pid == p.pid) (Linked made) made.processes sound.stands.linked (job_stopped s p) found).0.parent ne) ne), tt)

  pub end_sound : (settings : Settings) (status : ℕ) → is_end status ≡ true → IsSound (end settings p.pid status rows)
  end_sound settings status word = end_at rows p.pid p a.sound a.home (its_live rows p l a) settings status word

-- the signal that an LWP takes

pub next_is_signal : (p : ProcData) (l : LwpData) → IfSome (next_signal p l) IsSignal
next_is_signal p l = search (rules, lowest-some)

module _ (settings : Settings) (s : ℕ) (sig : IsSignal s) (rows : Rows) (p : ProcData) (l : LwpData) (k : Alike rows p l) where
  abbrev q : ProcData
  q = k.process

  by_action : (x : Action) → default_action s ≡ x → p.tracer ≡ None → IsSound (takes_by_default settings s x p l rows).rows
  by_action Action.End e free = subst (λ n. IsSound (end settings n s rows)) k.pid (end_sound rows q k.lwp k.acting settings s (search (rules, both, le-leb, by_bool, eqb-true)))
  by_action Action.Stop e free = search (rules, job_stop_sound)
  by_action Action.Discard e free = k.acting.sound

  pub takes_sound : IsSound (takes settings s p l rows).rows
  takes_sound = choose (is_some p.tracer) _ (takes_untraced settings s (disposition_of p.dispositions s) p l rows) (λ (o : Outcome). IsSound o.rows)
      (λ e. subst (λ n. IsSound (stop n l.tid (plain s) rows)) k.pid (subst (λ n. IsSound (stop q.pid n (plain s) rows)) k.tid
      (acting_stops rows q k.lwp k.acting (plain s) (ap is_some k.tracer ∙ e) (λ is. absurd (true≢false (sym is))))))
      (λ e. (search (rules, by_action)))

-- Acts in user mode, except calls

module _ (rows : Rows) (p : ProcData) (l : LwpData) (a : Acting rows p l) where
  pub raise_sound : (settings : Settings) (s : ℕ) → IsSound (raises settings s p l rows).rows
  raise_sound settings s = choose (not (is_signal s)) _ _ (λ (o : Outcome). IsSound o.rows) (λ e. a.sound) (λ e. post_sound rows p.pid p a.sound a.home (its_live rows p l a) settings s (Some l.tid))

  pub block_sound : (set : ℕ) → IsSound (change_lwp l.tid (λ k. record k { blocked = maskable set }) rows)
  block_sound set = (acting_lwp rows p l a (λ k. record k { blocked = maskable set }) (grind (arith, nat_tests, lwp_stands, without_apart))).sound

  -- a step is over
  pub stepped_acting : Acting (change_lwp l.tid (λ k. record k { stepping = false }) rows) p (record l { stepping = false })
  stepped_acting = acting_lwp rows p l a (λ k. record k { stepping = false }) (grind (arith, nat_tests, lwp_stands, stepless_fits))

  pub compute_sound : IsSound (computes p l rows).rows
  compute_sound = choose l.stepping _ _ (λ (o : Outcome). IsSound o.rows) (λ e. acting_stops (change_lwp l.tid (λ k. record k { stepping = false }) rows) p (record l { stepping = false }) stepped_acting (plain SIGTRAP) (grind (arith, nat_tests, e, lwp_fit rows p l a)) (grind (arith, nat_tests))) (λ e. a.sound)
