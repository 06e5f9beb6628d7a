use Rattle.std.proofs.Common.{◌≡◌, ◌+◌, ◌<◌, ◌^◌, ◌++◌, ◌∷◌, [], IfSome, ap, ◌∙◌, arith}
use Rattle.scenario.proofs.CommonNames.{Reply}
use Rattle.scenario.proofs.LineLemmas.{drawn_more, IsLonger}
use Rattle.scenario.specs.Unseen.{unseen_in}
use Rattle.scenario.proofs.lines.LineReportReport.add.Goals as goal

pub returns : goal.returns
returns c = λ report user room before was.
    let d = c.args.draft.now in
    let r : Reply = c.args.reply in
    let seen : c.of.result.value ≡ unseen_in d.replies ++ r ∷ [] = c.of.ensures ∙ ap (λ x. unseen_in x ++ r ∷ []) c.take.ensures.value in
    let one : d.number + 1 < 2 ^ 64 → c.saturating_add-draft.result ≡ d.number + 1 = λ small. grind (arith, small, c.saturating_add-draft.ensures) in
    let text : IfSome c.add_line.new.text (IsLonger d r c.saturating_add-draft.result) = c.add_line.ensures in
    drawn_more d report user room before r c.saturating_add-draft.result c.add_line.new.text c.of.result.value seen one text was
