use Rattle.json_values.proofs.CommonNames.{ap, ◌∙◌, arith, drop_all}
use Rattle.std.proofs.lemmas.Grind.{common_steps}
use Rattle.std.specs.Char.{encode_utf8}
use Rattle.json_values.proofs.Contents.{content-after_backslash, content-nil}
use Rattle.json.specs.Text.{content, after_backslash}
use Rattle.json_values.proofs.StringEnds.{escape_passed}
use Rattle.json_values.proofs.escapes.escape.Goals as goal

pub returns-then-at-bytes-clause-value : goal.returns-then-at-bytes-clause-value
returns-then-at-bytes-clause-value c = ap (content after_backslash) (drop_all c.args.at c.args.bytes.now (omega arith)) ∙ content-nil after_backslash

pub returns-then-bytes-at-eq117-clause-value : goal.returns-then-bytes-at-eq117-clause-value
returns-then-bytes-at-eq117-clause-value c = grind (arith, common_steps, content-after_backslash c.args.bytes.now c.args.at (omega arith))

pub returns-then-bytes-at-eq117-clause-passed : goal.returns-then-bytes-at-eq117-clause-passed
returns-then-bytes-at-eq117-clause-passed c = grind (arith, common_steps, escape_passed c.args.bytes.now c.args.at (omega arith))

pub returns-in_err-c-clause-value : goal.returns-in_err-c-clause-value
returns-in_err-c-clause-value c = grind (arith, common_steps, content-after_backslash c.args.bytes.now c.args.at (omega arith))

pub returns-clause-value : goal.returns-clause-value
unfolding encode_utf8
returns-clause-value c = grind (arith, common_steps, content-after_backslash c.args.bytes.now c.args.at (omega arith))

pub returns-clause-passed : goal.returns-clause-passed
returns-clause-passed c = escape_passed c.args.bytes.now c.args.at (omega arith)
