use Rattle.visibility.proofs.machine.users_are_apart_in_a_sound_host.Goals as goal

pub returns : goal.returns
returns c = Rattle.requests.proofs.SoundHostIsApart.users_are_apart_in_a_sound_host
