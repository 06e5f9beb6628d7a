use Rattle.std.proofs.Common.{◌≡◌, ◌+◌, ◌-◌, ◌++◌, length, take, drop, refl, sym, subst, arith}
use Rattle.std.proofs.lemmas.List.{length-take, length-drop}
use Rattle.tracehost.specs.Runs.{kept}
use Rattle.tracehost.proofs.Pieces.{grows}
use Rattle.tracehost.proofs.comparing.ComparingWriterWrite.write.Goals as goal

pub returns-in-None-clause-bytes : goal.returns-in-None-clause-bytes
returns-in-None-clause-bytes c =
    let expected = c.args.self.now.expected.now in let same = c.args.self.now.same in let bytes = c.args.bytes.now in
    subst (λ text. kept expected (same + length bytes) text ≡ kept expected same text ++ take (length bytes) bytes) (sym c.in-None.is)
    (grows expected bytes same c.if-starts_with.ensures.value
    (omega (arith, length-take (length expected - same) (drop same expected), length-drop same expected, c.if-starts_with.ensures.bound refl)))
