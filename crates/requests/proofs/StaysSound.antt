-- Every step keeps a host sound.
use Rattle.requests.proofs.CommonNames.{◌≡◌, [], ◌∷◌, true, sym, subst, sound, SoundKept, SoundRuns, step_fits, step, step_of, list}
use Rattle.requests.proofs.SoundAfterSpawn.{spawn_sound}
use Rattle.requests.proofs.PerStep.{by_step, calls_sound}
use Rattle.requests.proofs.SoundAfterCall.{checked_sound}
use Rattle.requests.proofs.SoundAfterTurn.{turn_sound}

pub sound_kept : SoundKept
sound_kept u user s fits m is = by_step (λ s. step_fits s ≡ true → sound (step u s m).machine ≡ true) (λ fits. spawn_sound m u user is) (λ tid a fits. turn_sound m u tid a fits is)
    (λ s n by fits. subst (λ o. sound (step_of u s m o).machine ≡ true) (sym by) (checked_sound u s m n is (λ p c. calls_sound u s p m user fits is c))) s fits

pub sound_runs : SoundRuns
sound_runs [] m all is = is
sound_runs (a ∷ list) m all is = sound_runs list (step a.uid a.step m).machine all.1 (sound_kept a.uid all.0.0 a.step all.0.1 m is)
