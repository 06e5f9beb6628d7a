use Rattle.json_values.proofs.CommonNames.{nat_tests, arith}
use Rattle.json_values.proofs.Places.{no_end_array, not_closed, refused_no_end}
use Rattle.json_values.proofs.tokens.Tokens.take_end_array.Goals.{then-peek-ne93-via-then-peek-ne93, then-peek-ne93-via-else-peek-ne93+then-not-may_close}
use Rattle.json_values.proofs.tokens.Tokens.take_end_array.Goals as goal

pub returns-then-peek-ne93 : goal.returns-then-peek-ne93
returns-then-peek-ne93 c = grind (arith, nat_tests, then-peek-ne93-via-then-peek-ne93, no_end_array, then-peek-ne93-via-else-peek-ne93+then-not-may_close, not_closed, refused_no_end)
