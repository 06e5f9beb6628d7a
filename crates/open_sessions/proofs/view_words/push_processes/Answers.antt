use Rattle.{std.proofs.Common.{arith}, open_sessions.{specs.ViewWords.{process_words}, proofs.ViewWordLemmas.{one_more}}}
use Rattle.open_sessions.proofs.view_words.push_processes.Goals as goal

pub loop-row-preserved : goal.loop-row-preserved
loop-row-preserved c = one_more process_words c.args.rows.now c.args.out.now.items c.loop-row.out.items c.push_process.new.out.items c.loop-row.row-index c.row-item.result c.row-item.result (omega arith) c.row-item.is c.loop-row.invariant c.in_ok-push_process.ensures
