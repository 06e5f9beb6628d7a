use Rattle.scenario_text.proofs.CommonNames.{rules, ◌≤◌, ◌-◌, length, take, arith, length-take}
use Rattle.scenario_text.proofs.Answering.{takes_more}
use Rattle.scenario_text.proofs.reading.front_of.Goals as goal

pub returns-in_err-extend_from_slice-clause-takes : goal.returns-in_err-extend_from_slice-clause-takes
returns-in_err-extend_from_slice-clause-takes g c =
    let short : length c.read_some.new.buf ≤ 4194305 - c.len-in-chunks.result = search rules in
    takes_more _ _ _ c.chunks.bytes.items (take c.in-Ok.n c.read_some.new.buf) 4194305
    c.chunks.invariant.1 (search rules) (omega (arith, length-take c.in-Ok.n c.read_some.new.buf, short))
