use Rattle.scenario_runs.proofs.CommonNames.{append_assoc, ◌∙◌}
use Rattle.scenario_runs.proofs.Beginnings.{begun_still}
use Rattle.scenario_runs.proofs.lines.push_text.Goals as goal

pub invariant_of-words : goal.invariant_of-words
invariant_of-words c =
    let a = c.words.inside in
    let numbered = begun_still a.user a.kept a.line.bytes _ c.push_str.new.self.bytes c.words.invariant c.push_str.ensures.bytes in
    begun_still a.user a.kept c.push_str.new.self.bytes _ c.push_short.new.line.bytes numbered (c.if-push_short.ensures ∙ append_assoc c.push_str.new.self.bytes _ _)

pub invariant_of-words-in_err-push_str : goal.invariant_of-words-in_err-push_str
invariant_of-words-in_err-push_str c =
    let a = c.words.inside in
    begun_still a.user a.kept a.line.bytes _ c.push_short.new.line.bytes c.words.invariant (c.if-push_short.ensures ∙ c.push_str.ensures.bytes)

pub invariant_of-words-2 : goal.invariant_of-words-2
invariant_of-words-2 c =
    let a = c.words.inside in
    begun_still a.user a.kept a.line.bytes _ c.push_short.new.line.bytes c.words.invariant (c.if-push_short.ensures ∙ c.push_str.ensures.bytes)
