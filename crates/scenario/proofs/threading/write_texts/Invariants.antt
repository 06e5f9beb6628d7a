use Rattle.std.proofs.Common.{drop, string_bytes}
use Rattle.scenario.proofs.CommonNames.{flat_map, Front}
use Rattle.scenario.proofs.threading.write_texts.Given as goal

abbrev pub invariant-loop-text : goal.invariant-loop-text
invariant-loop-text g l =
    Front (g.W.Write.contents l.initial.writer) (g.W.Write.contents l.writer) (flat_map string_bytes (drop l.text-index l.texts)) (flat_map string_bytes l.texts)
