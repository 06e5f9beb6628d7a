use Rattle.requests.proofs.laws.runs_stay_sound.Goals as goal

pub returns-clause-runs : goal.returns-clause-runs
returns-clause-runs c = Rattle.requests.proofs.StaysSound.sound_runs
