use Rattle.requests.proofs.CommonNames.{rules}
use Rattle.std.proofs.Math.Facts.{to_z-of_z}
use Rattle.requests.proofs.KillReaches.{nobody_reached}
use Rattle.requests.proofs.kill.kill.Goals as goal

pub returns-in-Err : goal.returns-in-Err
returns-in-Err c = record { rows = search (rules, to_z-of_z, nobody_reached); reply = search (rules, to_z-of_z, nobody_reached) }
