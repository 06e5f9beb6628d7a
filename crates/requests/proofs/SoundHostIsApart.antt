-- A sound host keeps users apart.
use Rattle.requests.proofs.CommonNames.{◌≡◌, ℕ, true, AllByRecursion, IsUser, is_live_of, and_left, and_right, both, any_more, All-imply, live_owner, sound_closed, Machine, arith, nat_tests, installed_by}
use Rattle.requests.proofs.CommonNames.{Debugger, ApartInASoundHost, sound}
use Rattle.requests.proofs.SoundWithoutEnded.{rows_sound, slots_of, live_pairs}

debuggers_in : (m : Machine) → sound m ≡ true → (u : ℕ) → IsUser u → AllByRecursion (Debugger u m.rows) (installed_by u m)
debuggers_in m is u user = All-imply (λ i. is_live_of m.rows u i.debugger ≡ true) (Debugger u m.rows)
    (grind (arith, nat_tests, live_owner, rows_sound, any_more, both, and_left, and_right)) (installed_by u m) (live_pairs m is u user)

pub users_are_apart_in_a_sound_host : ApartInASoundHost
users_are_apart_in_a_sound_host m is = record { rows = sound_closed m.rows (rows_sound m is); slots = slots_of m is; installed = debuggers_in m is }
