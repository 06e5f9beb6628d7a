use Rattle.lwp_table.proofs.CommonNames.{◌<◌, ap, ◌∙◌, arith, nat_tests, get_or, set, length, empty_head}
use Rattle.std.proofs.lemmas.List.{get_or_past}
use Rattle.lwp_table.proofs.PlaceLemmas.{replaced, value_at}
use Rattle.lwp_table.proofs.user_heads.UserHeads.replace.Goals as goal

pub returns-clause-items : goal.returns-clause-items
returns-clause-items c =
    let heads = c.self.inside.heads.items in
    let indices = c.self.inside.indices in
    let its = value_at empty_head heads indices c.self.invariant c.args.place c.requires.place in
    let there : get_or indices c.args.place 0 < length heads = grind (arith, nat_tests, its, get_or_past heads (get_or indices c.args.place 0) empty_head, c.requires.there, c.self.view_is) in
    replaced empty_head heads indices c.self.invariant c.args.place c.args.head c.requires.place there ∙ ap (λ v. set v.items c.args.place c.args.head) c.self.view_is
