use Rattle.std.proofs.Common.{◌≡◌, map, take}
use Rattle.sessions.proofs.CommonNames.{uid_of}
use Rattle.sessions.proofs.preparing.uids_of.Given as goal

abbrev pub invariant-loop-script : goal.invariant-loop-script
invariant-loop-script g l = l.uids.items ≡ map uid_of (take l.script-index l.scripts)
