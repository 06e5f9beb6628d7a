use Rattle.std.proofs.{Common.{rules, tests, string_bytes}, lemmas.Iterator.{YieldsList-from_slice, Search.any_from_yields_List}}
use Rattle.tracehost.specs.Given.{names}
use Rattle.tracehost.proofs.given.has_option.Goals as goal

pub returns : goal.returns
returns c = any_from_yields_List (λ word. names c.args.option.now (string_bytes word)) _ _ _ c.any.ensures.ran (YieldsList-from_slice c.args.words.now cc) (λ x b q k. search (rules, tests))
