-- The empty host is sound, and spawning keeps a host sound.
use Rattle.requests.proofs.CommonNames.{nat_tests, ◌≡◌, ℕ, true, Option, Some, None, IfSome, arith, IsUser, born, spawned, Rows, Settings, IsSound, both, sound_rows-from, Numbers, room_for_process}
use Rattle.requests.proofs.CommonNames.{spawn, spawn_with, Machine, empty, sound, step, Due, Step}
use Rattle.trace_rows.proofs.SoundAfterSpawn.{born_sound}
use Rattle.requests.proofs.RoomForProcess.{ProcessRoom, process_room}
use Rattle.requests.proofs.SoundWithoutEnded.{rows_sound, after_sound}
use Rattle.requests.proofs.IsolationOfHosts.{at_slot}

pub empty_sound : (settings : Settings) → sound (empty settings) ≡ true
empty_sound settings = grind (arith, nat_tests, both, sound_rows-from, at_slot)

spawned_sound : (u : ℕ) (rows : Rows) → IsUser u → IsSound rows → (o : Option Numbers) → IfSome o (ProcessRoom u rows) → IsSound (spawn_with u rows o).rows
spawned_sound u rows user s None room = s
spawned_sound u rows user s (Some new) room = born_sound rows (spawned new.pid u) (born new.tid new.pid 0 Due.Nothing) s (grind (arith, nat_tests))

-- a spawn keeps a host sound
pub spawn_sound : (m : Machine) (u : ℕ) → IsUser u → sound m ≡ true → sound (step u Step.Spawn m).machine ≡ true
spawn_sound m u user is = after_sound m (spawn u m.rows) is (spawned_sound u m.rows user (rows_sound m is) (room_for_process u m.rows) (process_room u m.rows ((rows_sound m is).stands.pid_cursors u user) ((rows_sound m is).stands.tid_cursors u user)))
