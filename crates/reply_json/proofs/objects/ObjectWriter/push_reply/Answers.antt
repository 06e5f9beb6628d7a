use Rattle.reply_json.proofs.CommonNames.{◌≡◌, rules, subst, tokens, print, json_tokens, reply_value}
use Rattle.reply_json.proofs.{TokenLemmas.document-back, DepthLemmas.shallow}
use Rattle.reply_json.proofs.objects.ObjectWriter.push_reply.Goals as goal

pub returns-clause-reads_back : goal.returns-clause-reads_back
returns-clause-reads_back c =
    let r = c.args.reply.now in
    let value = reply_value c.args.uid c.args.number r in
    let written : c.push_object.new.out.tokens ≡ json_tokens value = search rules in
    document-back value (shallow c.args.uid c.args.number r) (subst (λ ts. tokens (print ts) ≡ ts) written c.text_of-object.ensures.reads_back)
