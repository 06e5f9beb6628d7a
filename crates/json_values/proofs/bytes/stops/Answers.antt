use Rattle.json_values.proofs.CommonNames.{zip2_splat}
use Rattle.json_values.proofs.Runs.{below, hit, stop_mask}
use Rattle.json_values.proofs.bytes.stops.Goals as goal

pub returns : goal.returns
returns c =
    let v = c.args.bytes in
    let long = c.fits-bytes.0 in
    stop_mask v _ _ _ long (zip2_splat hit v 16 34 long) (zip2_splat hit v 16 92 long) (zip2_splat below v 16 32 long)
