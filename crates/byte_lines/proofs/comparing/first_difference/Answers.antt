use Rattle.{std.proofs.{Common.{◌≤◌, ◌+◌, length, arith}, lemmas.Bool.Decides.nat_tests}, byte_lines.proofs.WalkLemmas.{agrees_more, differs_here, ne_apart, ne_same}}
use Rattle.byte_lines.proofs.comparing.first_difference.Goals as goal

pub returns-then-ne-clause-first : goal.returns-then-ne-clause-first
returns-then-ne-clause-first c =
    let e = c.split_line in
    let g = c.split_line-in-loop-expected_rest in
    differs_here _ _ _ _ _ e.result.0.now g.result.0.now e.result.1.now g.result.1.now c.loop-expected_rest.invariant
    (record { text_is = e.ensures.text; first = e.ensures.line; others = e.ensures.rest })
    (record { text_is = g.ensures.text; first = g.ensures.line; others = g.ensures.rest })
    c.line_there.ensures c.line_there-then-ne.ensures (ne_apart _ _ _ c.ne.ensures c.if-ne.true)

pub loop-expected_rest-preserved : goal.loop-expected_rest-preserved
loop-expected_rest-preserved c =
    let e = c.split_line in
    let g = c.split_line-in-loop-expected_rest in
    let same = ne_same e.result.0.now g.result.0.now c.ne.result c.ne.ensures c.if-ne.false in
    let some : 1 ≤ length c.loop-expected_rest.expected_rest.now + length c.loop-expected_rest.got_rest.now = grind (arith, nat_tests) in
    agrees_more _ _ _ _ _ e.result.0.now e.result.1.now g.result.1.now c.loop-expected_rest.invariant
    (record { text_is = e.ensures.text; first = e.ensures.line; others = e.ensures.rest })
    (record { text_is = rw same g.ensures.text; first = rw same g.ensures.line; others = g.ensures.rest })
    e.ensures.shorter g.ensures.shorter some
