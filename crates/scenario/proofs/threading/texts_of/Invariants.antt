use Rattle.std.proofs.Common.{◌≡◌, ◌++◌, map, Some}
use Rattle.scenario.proofs.CommonNames.{into_iter_items, text_in}
use Rattle.scenario.proofs.threading.texts_of.Given as goal

abbrev pub invariant-loop-transcript : goal.invariant-loop-transcript
invariant-loop-transcript l = map (λ text. Some text) l.texts.items ++ map text_in (into_iter_items l.transcript-iterator) ≡ map text_in l.fn.transcripts.items
