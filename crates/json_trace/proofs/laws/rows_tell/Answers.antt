use Rattle.json_trace.proofs.RowTells.{rows_tell}
use Rattle.json_trace.proofs.laws.rows_tell.Goals as goal

pub returns : goal.returns
returns c = rows_tell
