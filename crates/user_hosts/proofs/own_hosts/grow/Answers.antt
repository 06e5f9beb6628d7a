use Rattle.requests.proofs.CommonNames.{[], ◌∷◌, ◌++◌, length, None, ap, ◌∙◌, arith, length-append}
use Rattle.user_hosts.specs.Hosts.{padded}
use Rattle.user_hosts.proofs.Padded.{pushed}
use Rattle.user_hosts.proofs.own_hosts.grow.Goals as goal

pub loop-made-preserved : goal.loop-made-preserved
loop-made-preserved g c =
    let more = c.in_ok-push.ensures.items ∙ ap (λ o. c.loop-made.made.items ++ (o ∷ [])) c.none.ensures in
    let long = c.loop-made.made.ok.0 in
    let len = c.len.ensures in let test = c.loop-made-test.true in let below = c.requires.slot in
    record {
      few = omega (arith, ap length more, length-append c.loop-made.made.items (None ∷ []), long, len, test, below, c.loop-made.invariant.few);
      same = ap padded more ∙ pushed c.loop-made.made.items (omega (arith, long, len, test, below)) ∙ c.loop-made.invariant.same;
    }
