use Rattle.std.proofs.Common.{◌∙◌, rules}
use Rattle.trace_stop.proofs.Descents.{turn}
use Rattle.trace_stop.proofs.ends.end_with_tracees.Goals as goal

pub loop-leaf-smaller : goal.loop-leaf-smaller
loop-leaf-smaller c = (turn c.loop-leaf.tables.rows c.args.pid c.leaf_below-leaf.result c.loop-leaf.invariant.sound (search rules) (c.leaf_below-leaf.ensures.below c.args.pid c.loop-leaf.invariant.ends)
    c.leaf_below-leaf.ensures.leaf c.end_leaf-in-loop-leaf.new.tables.rows c.number-killed.result (search rules) c.end_leaf-in-loop-leaf.ensures).fewer

pub loop-leaf-preserved : goal.loop-leaf-preserved
loop-leaf-preserved c =
    let t = turn c.loop-leaf.tables.rows c.args.pid c.leaf_below-leaf.result c.loop-leaf.invariant.sound (search rules) (c.leaf_below-leaf.ensures.below c.args.pid c.loop-leaf.invariant.ends)
    c.leaf_below-leaf.ensures.leaf c.end_leaf-in-loop-leaf.new.tables.rows c.number-killed.result (search rules) c.end_leaf-in-loop-leaf.ensures in
    record {
      sound = t.sound;
      live = t.live c.loop-leaf.invariant.live;
      ends = rw c.unwrap_or-at.ensures (t.ends c.tracer_of-tracer.result c.tracer_of-tracer.ensures);
      rows = t.same c.args.status ∙ c.loop-leaf.invariant.rows;
    }
