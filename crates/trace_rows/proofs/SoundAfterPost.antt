-- Posting any signal, and resuming or detaching with one, keep rows sound.
use Rattle.trace_rows.proofs.CommonNames.{arith, ◌≢◌, ◌≡◌, ℕ, true, ◌==◌, [], ◌∷◌, Option, Some, refl, sym, subst, nat_tests, AllByRecursion, SIGKILL, ProcData, is_live, process_of, Rows, change, is_numbered, continues}
use Rattle.trace_rows.proofs.CommonNames.{posted_process, posted_lwp, notified, notifies, posted, running, resumed, signal_alone, Resumption, is_some, detached, end, post, ends_process, resume, detach, is_end, Linked, IsSound, MayTell, Settings, every_found}
use Rattle.trace_rows.proofs.CommonNames.{process_of-pid}
use Rattle.trace_rows.proofs.SoundAfterSettle.{posted_same}
use Rattle.trace_rows.proofs.SoundAfterDetach.{resumed_sound, resumed_row, detached_sound, end_sound}
use Rattle.trace_rows.proofs.CommonLemmas.{All-imply, All-both, choose, sound_holds, changed_row, post_chosen, the_row, live_told, notified_sound}

module _ (rows : Rows) (pid : ℕ) (p : ProcData) (s : IsSound rows) (at : process_of pid rows.processes ≡ Some p) (live : is_live p ≡ true) where
  number : p.pid ≡ pid
  number = process_of-pid pid p rows.processes at

  pub end_at : (settings : Settings) (status : ℕ) → is_end status ≡ true → IsSound (end settings pid status rows)
  end_at settings status word = subst (λ n. IsSound (end settings n status rows)) number (end_sound settings rows p s (subst (λ n. process_of n rows.processes ≡ Some p) (sym number) at) live status word)

  pub posted_sound : (sig : ℕ) (to : Option ℕ) → IsSound (posted sig to pid rows)
  posted_sound sig to = subst (λ o. IsSound (notified (notifies sig o) made)) (sym at) (notified_sound made (notifies sig (Some p)) made_sound (choose (continues sig p) (p.parent ∷ []) [] (AllByRecursion (MayTell made)) (λ e. (tell, tt)) (λ e. tt)))
    where
      made : Rows
      made = change (is_numbered pid) (posted_process sig to) (posted_lwp sig to) rows

      made_sound : IsSound made
      made_sound = sound_holds made (post_chosen rows (is_numbered pid) sig to (record {
        stands = s.stands;
        processes = All-both _ _ rows.processes s.processes (All-imply _ _ (λ q one is. grind (arith, nat_tests, one, is, live)) rows.processes (the_row pid rows.processes p s.stands.rising at));
        lwps = s.lwps;
      }))

      q : ProcData
      q = posted_process sig to p

      found : process_of pid made.processes ≡ Some q
      found = grind (arith, nat_tests, changed_row pid (is_numbered pid) (posted_process sig to) rows.processes p (λ r. posted_same (λ x. x.pid) sig to r (λ n. refl) (λ n. refl)) at, number)

      tell : MayTell made p.parent
      tell = rw (posted_same (λ x. x.parent) sig to p (λ n. refl) (λ n. refl)) at (λ (ne : q.parent ≢ 1). live_told made q.uid q.parent ((every_found (Linked made) (λ r. r.pid == pid) made.processes q made_sound.stands.linked found).parent ne) ne)

  pub post_sound : (settings : Settings) (sig : ℕ) (to : Option ℕ) → IsSound (post settings sig to pid rows)
  post_sound settings sig to = choose (sig == SIGKILL) (end settings pid SIGKILL rows) (posted sig to pid rows) IsSound (λ e. end_at settings SIGKILL refl) (λ e. posted_sound sig to)

  pub untraced_sound : (lost : ℕ) → IsSound (detached (is_numbered pid) (λ q. lost) rows)
  untraced_sound lost = detached_sound (is_numbered pid) (λ q. lost) rows s (λ q own is. grind (arith, nat_tests, own, is, at, live))

-- Resuming and detaching with a signal
module _ (settings : Settings) (rows : Rows) (pid : ℕ) (p : ProcData) (s : IsSound rows) (at : process_of pid rows.processes ≡ Some p) (live : is_live p ≡ true) (traced : is_some p.tracer ≡ true) where
  ends_at : (how : Resumption) → ends_process how.pass (process_of pid rows.processes) ≡ true → IsSound (end settings pid how.pass (resumed how pid rows))
  ends_at how is = end_at (resumed how pid rows) pid (running how.adds p) (resumed_sound how rows pid p s at live traced) (resumed_row how rows pid p s at live traced) refl settings how.pass (grind (arith, nat_tests, at, is))

  pub resume_sound : (how : Resumption) → IsSound (resume settings how pid rows)
  resume_sound how = choose (ends_process how.pass (process_of pid rows.processes)) (end settings pid how.pass (resumed how pid rows)) (resumed how pid rows) IsSound (ends_at how) (λ e. resumed_sound how rows pid p s at live traced)

  pub detach_sound : (sig : ℕ) → IsSound (detach settings pid sig rows)
  detach_sound sig = choose (ends_process sig (process_of pid rows.processes)) (resume settings (signal_alone sig) pid rows) (detached (is_numbered pid) (λ q. 0) rows) IsSound (λ e. resume_sound (signal_alone sig)) (λ e. untraced_sound rows pid p s at live 0)
