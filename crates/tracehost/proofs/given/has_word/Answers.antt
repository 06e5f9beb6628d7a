use Rattle.std.{proofs.{Common.{rules, tests, string_bytes}, lemmas.Iterator.{YieldsList-from_slice, Search.any_from_yields_List}}, specs.Str.bytes_eq}
use Rattle.tracehost.proofs.given.has_word.Goals as goal

pub returns : goal.returns
returns c = any_from_yields_List (λ word. bytes_eq (string_bytes word) c.args.text.now) _ _ _ c.any.ensures.ran (YieldsList-from_slice c.args.words.now cc) (λ x b q k. search (rules, tests))
