use Rattle.std.proofs.Common.{◌≡◌, ◌<◌, ◌/◌, [], get_or, ap, ◌∙◌, arith}
use Rattle.std.proofs.lemmas.List.{get_or_default}
use Rattle.proc_table.specs.Members.{word_at}
use Rattle.proc_table.proofs.Bits.{begun_index, others_put, begun_put}
use Rattle.proc_table.proofs.bit_sets.NumberSet.set_word.Goals as goal

pub returns-clause-others : goal.returns-clause-others
returns-clause-others c =
    let indices = c.self.inside.indices in
    let pages = c.self.inside.pages.items in
    let low : c.args.k / 16 < 64 = omega (arith, c.requires.number) in
    let index = get_or indices (c.args.k / 16) 0 in
    let there = begun_index indices pages c.self.invariant c.args.k low (rw (← c.self.view_is) at c.requires.begun) in
    let page : c.index_mut.result.now ≡ get_or pages index [] = c.index_mut.ensures.value ∙ get_or_default pages index c.index_mut.result.now [] there in
    λ j apart. rw page (others_put indices pages c.self.invariant c.args.k low c.args.word there j apart ∙ ap (λ v. word_at v.pages j) c.self.view_is)

pub returns-clause-pages : goal.returns-clause-pages
returns-clause-pages c =
    let indices = c.self.inside.indices in
    let pages = c.self.inside.pages.items in
    let low : c.args.k / 16 < 64 = omega (arith, c.requires.number) in
    let index = get_or indices (c.args.k / 16) 0 in
    let there = begun_index indices pages c.self.invariant c.args.k low (rw (← c.self.view_is) at c.requires.begun) in
    let page : c.index_mut.result.now ≡ get_or pages index [] = c.index_mut.ensures.value ∙ get_or_default pages index c.index_mut.result.now [] there in
    λ j begun. rw page (begun_put indices pages c.self.invariant c.args.k low c.args.word there j (rw (← c.self.view_is) at begun))
