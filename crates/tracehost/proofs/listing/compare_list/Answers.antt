use Rattle.{std.proofs.Common.{refl, arith, rules}, tracehost.proofs.RowLemmas.{walks_start, walks_row}}
use Rattle.tracehost.proofs.listing.compare_list.Goals as goal

pub loop-rest-init : goal.loop-rest-init
loop-rest-init g c = walks_start _ _ _ _ refl

pub loop-rest-preserved-in_ok-say : goal.loop-rest-preserved-in_ok-say
loop-rest-preserved-in_ok-say g c =
    walks_row _ _ _ _ c.split_line.result.0.now c.split_line.result.1.now c.loop-rest.tally c.count.new.self c.in_ok-said.said c.loop-rest.invariant
    (c.split_line.ensures.lines (search rules)) (search rules) c.in_ok-said.ensures c.count.ensures.clean
