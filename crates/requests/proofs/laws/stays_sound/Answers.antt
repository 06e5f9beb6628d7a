use Rattle.requests.proofs.laws.stays_sound.Goals as goal

pub returns : goal.returns
returns c = Rattle.requests.proofs.StaysSound.sound_kept
