use Rattle.{std.{proofs.{Common.{take, rules, subst, inr, ◌∙◌}, BufReadLemmas.Consumes_shown}, specs.Io.{BufRead.FillKeeps, KnownBytes.Consumes}}, byte_lines.proofs.ReadLemmas.kept_part}
use Rattle.byte_lines.proofs.reading.take_part.Goals as goal

pub returns-clause-part : goal.returns-clause-part
returns-clause-part g c =
    let shown = c.in-Ok.shown.now in
    let part = c.part_of-before in
    let rested = c.fill.follows.lender-at-none in
    let filled = subst (FillKeeps _ (g.R.Read.remaining rested) (g.R.BufRead.consumable_len rested)) c.in-Ok.is c.fill.follows.holds-at-none in
    let moved = Consumes_shown _ _ _ _ shown part.result.1 part.ensures.bound c.in-Ok.ensures.front c.in-Ok.ensures.end filled.0 filled.1 c.consume.ensures.bytes in (
      take part.result.0 shown,
      (part.ensures.before, subst (Consumes _ _) part.ensures.through moved.0),
      c.in_ok-extend_from_slice.ensures.items ∙ kept_part _ shown c.args.most part.result.0 _ c.requires (search rules),
      (λ more. inr (part.ensures.more more)),
    )
