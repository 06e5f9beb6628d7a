use Rattle.json_values.proofs.Runs.{difference_mask}
use Rattle.json_values.proofs.bytes.differences.Goals as goal

pub returns : goal.returns
returns c = difference_mask c.args.bytes c.args.others c.fits-bytes.0 c.fits-others.0
