use Rattle.reply_json.proofs.CommonNames.{rules, true, [], ◌∷◌, codes, key, boolean}
use Rattle.reply_json.proofs.TokenLemmas.{tokens_put}
use Rattle.reply_json.proofs.statuses.push_continued.Goals as goal

pub returns : goal.returns
returns c = (
  search rules,
  tokens_put _ (key (codes "continued") ∷ []) (boolean true ∷ []) c.args.out.now.tokens c.key.new.self.tokens c.boolean.new.self.tokens c.in_ok-key.ensures.ok c.boolean.ensures.ok,
)
