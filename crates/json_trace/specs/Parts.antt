-- How a run that writes its lines as they are made ends.
use Rattle.std.specs.Prelude.{⊤, ℕ, Bool, List, Option, Result, Ok, Err}
use Rattle.std.specs.Io.KnownBytes.{Appends}
use Rattle.scenario_runs.specs.Parts.{Begins, Parted}
use Rattle.scenario_runs.specs.declared.running.RunFault.{RunFault}
use Rattle.scenario_runs.specs.declared.running.RunFault.TheVariants.{Write}

-- the writer has got the text, or the beginning of it if the run failed
abbrev pub WritesFront : Result ⊤ RunFault → (before now : Option (List ℕ)) → List ℕ → Type 0
WritesFront (Ok done) before now text = Appends before now text
WritesFront (Err e) before now text = Begins before now text

-- a run stopped by this fault: the beginning was written, or the lines so far are still to be written
abbrev pub Stopped : RunFault → (before now : Option (List ℕ)) → (text all : List ℕ) → Bool → Type 0
Stopped Write before now text all is_begun = Begins before now all
Stopped e before now text all is_begun = (rest : List ℕ) × Parted before now text rest all is_begun
