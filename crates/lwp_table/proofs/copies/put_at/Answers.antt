use Rattle.lwp_table.proofs.CommonNames.{◌∙◌, ap, sym, Some}
use Rattle.indexmap.proofs.CallerLemmas.{index_map_len-with_value_at}
use Rattle.lwp_table.proofs.CopyLemmas.{value-put}
use Rattle.lwp_table.proofs.copies.put_at.Goals as goal

pub returns-in-Some-clause-put : goal.returns-in-Some-clause-put
returns-in-Some-clause-put g c = λ is. value-put c.args.index.now.entries c.args.at c.args.number c.in-Some.field-0-1.now c.args.value (sym c.in-Some.ensures.entry ∙ ap (λ n. Some (n, c.in-Some.field-0-1.now)) c.if-found-number.true)

pub returns-in-Some-clause-len : goal.returns-in-Some-clause-len
returns-in-Some-clause-len g c = index_map_len-with_value_at c.args.index.now c.args.at c.args.value
