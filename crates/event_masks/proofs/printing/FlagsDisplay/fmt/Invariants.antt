use Rattle.std.proofs.Common.{◌≡◌, ◌==◌, ◌++◌, ℕ, List, map, drop}
use Rattle.std.specs.Fmt.{HasWritten, IsPlainFormatter}
use Rattle.std.specs.Int.RustNames.{bit_and}
use Rattle.event_masks.specs.Names.{joined, names_of, hex_words, named_bit}
use Rattle.event_masks.proofs.Joins.{ending, chosen}
use Rattle.event_masks.proofs.printing.FlagsDisplay.fmt.Given as goal

-- what has been written, with what is still to be, is the whole text
abbrev pub invariant-loop-name : goal.invariant-loop-name
invariant-loop-name g l = record {
  done : List ℕ;
  whole : done ++ ending l.self.none.now l.self.between.now l.empty (chosen (λ n. bit_and l.bits n.1 == n.1) (λ n. n.0.now) (drop l.name-index l.self.names.now) ++ hex_words l.self.further)
      ≡ joined l.self.none.now l.self.between.now (names_of (map named_bit l.self.names.now) l.self.bits ++ hex_words l.self.further);
  written : IsPlainFormatter l.initial.f → HasWritten g.W.Write.write_str_gives l.initial.f done l.f;
}
