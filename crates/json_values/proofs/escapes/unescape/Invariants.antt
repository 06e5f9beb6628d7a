use Rattle.json_values.proofs.CommonNames.{◌≡◌, ◌+◌, ◌-◌, ◌≤◌, length, take, drop, content, plain, prepend, lex, in_string}
use Rattle.std.specs.Str.{IsUtf8, IsCharBoundary}
use Rattle.json_values.proofs.escapes.unescape.Given as goal

abbrev pub invariant-loop-bytes : goal.invariant-loop-bytes
invariant-loop-bytes l =
    (content plain (drop l.start l.text) ≡ prepend (take l.len l.out) (content plain (drop l.at l.text))) × IsUtf8 (take l.len l.out) × IsCharBoundary l.text l.at
    × (l.len + l.start ≤ l.at) × (length l.out ≡ length l.initial.out) × (lex in_string (drop l.start l.text) ≡ lex in_string (drop l.at l.text))

abbrev pub decreases-loop-bytes : goal.decreases-loop-bytes
decreases-loop-bytes l = length l.text - l.at
