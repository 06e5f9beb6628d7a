use Rattle.scenario_runs.proofs.CommonNames.{◌≡◌, ◌++◌, [], ◌∷◌, get_or, map, ◌+◌, ap, ◌∙◌, refl, arith, rules, answered}
use Rattle.scenario_runs.proofs.LineLemmas.{counted_start, counted_more, counted_few, counted_number, shown_after, shown_whole, text_more}
use Rattle.scenario_runs.proofs.lines.render_with.Goals as goal

pub loop-reply-init : goal.loop-reply-init
loop-reply-init c = record {
  before = [];
  few = refl;
  counted = counted_start;
  text = ap (λ text. text ++ shown_after c.args.options.style c.args.options.user [] (map answered c.args.replies.now)) c.new-text.ensures.bytes ∙ shown_whole c.args.options.style c.args.options.user (map answered c.args.replies.now);
}

pub count_reply-number-requires : goal.count_reply-number-requires
count_reply-number-requires c = λ k.
    let few = counted_few c.loop-reply.made c.loop-reply.invariant.before c.loop-reply.invariant.counted k in
    let place = c.loop-reply.invariant.few in omega arith

pub loop-reply-preserved : goal.loop-reply-preserved
loop-reply-preserved c =
    let es = c.args.replies.now in
    let i = c.loop-reply.reply-index in
    let e = c.reply-item.result in
    let here : get_or es i e ≡ e = search rules in
    let range = c.count_reply-number.ensures.range in
    let made = c.loop-reply.made in
    let before = c.loop-reply.invariant.before in
    let counted = c.loop-reply.invariant.counted in
    record {
      before = e.0 ∷ before;
      few = let few = c.loop-reply.invariant.few in omega arith;
      counted = rw (c.count_reply-number.ensures.after, c.count_reply-number.ensures.number) (counted_more made before e.0 range.0 range.1 counted);
      text = text_more c.args.options.style c.args.options.user es i e before c.count_reply-number.result _ _ _ c.loop-reply-test.true here
          (c.count_reply-number.ensures.number ∙ ap (λ n. n + 1) (counted_number made before e.0 range.0 range.1 counted))
          (search rules) c.loop-reply.invariant.text;
    }
