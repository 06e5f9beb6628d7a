use Rattle.reply_json.proofs.CommonNames.{◌≡◌, rules, arith, subst, tokens, print, json_tokens, refusal_value}
use Rattle.reply_json.proofs.TokenLemmas.{document-back}
use Rattle.reply_json.proofs.objects.refusal_json.Goals as goal

pub returns-clause-reads_back : goal.returns-clause-reads_back
returns-clause-reads_back c =
    let value = refusal_value c.args.name.now in
    let written : c.end_object.new.self.tokens ≡ json_tokens value = search rules in
    document-back value (omega arith) (subst (λ ts. tokens (print ts) ≡ ts) written c.text_of.ensures.reads_back)
