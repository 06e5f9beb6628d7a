use Rattle.std.proofs.Common.{ℕ, List, Option, ◌≡◌, ◌++◌, ◌+◌, ◌∷◌, ◌∙◌, [], true, false, ap, sym, subst, refl, arith, length, map, drop}
use Rattle.std.specs.Prelude.{Err, zip}
use Rattle.std.proofs.lemmas.List.{length-map}
use Rattle.requests.specs.{Machine.empty, Run.replies}
use Rattle.step_types.specs.{Plain.{PlainStep, UserStep}, declared.Reply.Reply}
use Rattle.scenario_text.specs.Plan.{asked}
use Rattle.scenario_runs.specs.{Lines.shows, Parts.Parted, Runs.{Writes, answered, paired}, declared.running.RunFault.RunFault}
use Rattle.scenario_runs.proofs.LineLemmas.{counted_few, counted_more, counted_number, counted_start}
use Rattle.json_trace.specs.Traces.{answers_to, chosen, traced_after, traced_line, trace_shown}
use Rattle.json_trace.proofs.TraceLemmas.{next-shown, none-left, reply-none, reply-other, reply-shown, unreplied}
use Rattle.json_trace.proofs.WriteLemmas.{handed}
use Rattle.json_trace.proofs.traces.add_lines.Goals as goal

pub loop-asked-init : goal.loop-asked-init
loop-asked-init g c =
    let plan = c.args.scenario.now in
    let it = c.into_iter-asked-iterator.result in
    let rs = replies plan.steps (empty plan.settings) in
    let own = ap (map asked) c.into_iter-asked-iterator.ensures.into_iter_gives ∙ c.iter-asked-items.ensures in
    let steps : map asked it ≡ plan.steps = own ∙ ap (λ p. p.steps) c.scenario.view_is in
    record {
      before = [];
      rs = rs;
      counted = counted_start;
      index = refl;
      few = let long : length it ≡ c.len-count.result = sym (length-map it asked) ∙ ap length own ∙ sym c.len-count.ensures in omega (arith, long);
      left = c.requires ∙ ap (λ xs. answers_to c.args.user (paired xs rs)) (sym steps);
      parted = λ first rest all p. subst (λ xs. Parted first (g.W.Write.contents c.args.writer.now) c.args.part.now.text.items (chosen c.args.user (traced_after [] (zip xs rs)) ++ rest) all c.args.part.now.is_begun) (sym steps) p;
    }

pub count_reply-number-requires : goal.count_reply-number-requires
count_reply-number-requires g c = λ k.
    let inv = c.loop-asked.invariant in
    let few = counted_few c.loop-asked.made inv.before inv.counted k in
    let one = ap length c.in-Some.ensures.steps in
    let place = inv.few in
    let bound = c.len-count.type_inv in omega (arith, few, one, place, bound)

pub returns-in_default-clause-ok : goal.returns-in_default-clause-ok
returns-in_default-clause-ok g c = λ first rest all p.
    let at = c.loop-asked in
    let inv = at.invariant in
    let x = c.in-Some.asked in
    let more = map asked c.next.new.self in
    let next = ap (map asked) c.in-Some.ensures.steps in
    let shown = sym c.is_shown.ensures ∙ c.if-is_shown.true in
    let past = c.in_default.ensures.lookup in
    let none = reply-none c.args.user c.args.replies.now at.told x.0 x.1 more inv.rs (omega (arith, past.0)) shown (inv.left ∙ ap (λ xs. answers_to c.args.user (paired xs inv.rs)) next) in
    subst (λ xs. Parted first (g.W.Write.contents at.writer) at.part.text.items xs all at.part.is_begun) (none-left c.args.user inv.before (map asked at.asked-iterator) inv.rs rest (unreplied (map asked at.asked-iterator) inv.rs none)) (inv.parted first rest all p)

pub loop-asked-preserved-in-Continue-1 : goal.loop-asked-preserved-in-Continue-1
loop-asked-preserved-in-Continue-1 g c =
    let at = c.loop-asked in
    let inv = at.invariant in
    let x = c.in-Some.asked in
    let e = c.in-Some-get.reply.now in
    let more = map asked c.next.new.self in
    let next = ap (map asked) c.in-Some.ensures.steps in
    let one = ap length c.in-Some.ensures.steps in
    let place = inv.few in
    let range = c.count_reply-number.ensures.range in
    let number = c.count_reply-number.ensures.number ∙ ap (λ n. n + 1) (counted_number at.made inv.before x.0 range.0 range.1 inv.counted) in
    let shown = sym c.is_shown.ensures ∙ c.if-is_shown.true in
    let got = c.in-Some-get.ensures.lookup in
    let bound = c.len-count.type_inv in
    let index : c.saturating_add-index.result ≡ length inv.before + 1 = grind (arith, c.saturating_add-index.ensures, inv.index, one, place, bound) in
    let reply = reply-shown c.args.user c.args.replies.now at.told x.0 x.1 more e inv.rs got.3.0 (sym got.1) shown (inv.left ∙ ap (λ xs. answers_to c.args.user (paired xs inv.rs)) next) in
    record {
      before = x.0 ∷ inv.before;
      rs = reply.0;
      counted = rw (c.count_reply-number.ensures.after, c.count_reply-number.ensures.number) (counted_more at.made inv.before x.0 range.0 range.1 inv.counted);
      index = index ∙ omega arith;
      few = omega (arith, one, place);
      left = reply.2;
      parted = λ first rest all p.
          c.in_ok-add_line.ensures.ok first (chosen c.args.user (traced_after (x.0 ∷ inv.before) (zip more reply.0)) ++ rest) all
          (subst (λ xs. Parted first (g.W.Write.contents at.writer) at.part.text.items xs all at.part.is_begun) (next-shown c.args.user inv.before x e.1 (map asked at.asked-iterator) more inv.rs reply.0 c.count_reply-number.result c.saturating_add-index.result rest shown next reply.1 number index) (inv.parted first rest all p));
    }

pub returns-in_err-add_line-clause-err : goal.returns-in_err-add_line-clause-err
returns-in_err-add_line-clause-err g c =
    let at = c.loop-asked in
    let inv = at.invariant in
    let x = c.in-Some.asked in
    let e = c.in-Some-get.reply.now in
    let more = map asked c.next.new.self in
    let next = ap (map asked) c.in-Some.ensures.steps in
    let one = ap length c.in-Some.ensures.steps in
    let place = inv.few in
    let range = c.count_reply-number.ensures.range in
    let number = c.count_reply-number.ensures.number ∙ ap (λ n. n + 1) (counted_number at.made inv.before x.0 range.0 range.1 inv.counted) in
    let shown = sym c.is_shown.ensures ∙ c.if-is_shown.true in
    let got = c.in-Some-get.ensures.lookup in
    let bound = c.len-count.type_inv in
    let index : c.saturating_add-index.result ≡ length inv.before + 1 = grind (arith, c.saturating_add-index.ensures, inv.index, one, place, bound) in
    let reply = reply-shown c.args.user c.args.replies.now at.told x.0 x.1 more e inv.rs got.3.0 (sym got.1) shown (inv.left ∙ ap (λ xs. answers_to c.args.user (paired xs inv.rs)) next) in
    handed (λ (f : RunFault). (first : Option (List ℕ)) (rest all : List ℕ) → Parted first (g.W.Write.contents c.args.writer.now) c.args.part.now.text.items (trace_shown c.args.user c.args.scenario.now ++ rest) all c.args.part.now.is_begun
    → Writes (Err f) first (g.W.Write.contents c.add_line.new.writer) all) c.from_residual.result c.in_err-add_line.field-0.0 c.from_residual.ensures.1
    (λ first rest all p. c.in_err-add_line.ensures.err first (chosen c.args.user (traced_after (x.0 ∷ inv.before) (zip more reply.0)) ++ rest) all
    (subst (λ xs. Parted first (g.W.Write.contents at.writer) at.part.text.items xs all at.part.is_begun) (next-shown c.args.user inv.before x e.1 (map asked at.asked-iterator) more inv.rs reply.0 c.count_reply-number.result c.saturating_add-index.result rest shown next reply.1 number index) (inv.parted first rest all p)))

pub loop-asked-preserved : goal.loop-asked-preserved
loop-asked-preserved g c =
    let at = c.loop-asked in
    let inv = at.invariant in
    let x = c.in-Some.asked in
    let more = map asked c.next.new.self in
    let next = ap (map asked) c.in-Some.ensures.steps in
    let one = ap length c.in-Some.ensures.steps in
    let place = inv.few in
    let range = c.count_reply-number.ensures.range in
    let shown = sym c.is_shown.ensures ∙ c.if-is_shown.false in
    let bound = c.len-count.type_inv in
    let reply = reply-other c.args.user c.args.replies.now at.told x.0 x.1 more inv.before inv.rs shown (inv.left ∙ ap (λ xs. answers_to c.args.user (paired xs inv.rs)) next) in
    record {
      before = x.0 ∷ inv.before;
      rs = reply.0;
      counted = rw (c.count_reply-number.ensures.after, c.count_reply-number.ensures.number) (counted_more at.made inv.before x.0 range.0 range.1 inv.counted);
      index = grind (arith, c.saturating_add-index.ensures, inv.index, one, place, bound);
      few = omega (arith, one, place);
      left = reply.1;
      parted = λ first rest all p.
          subst (λ xs. Parted first (g.W.Write.contents at.writer) at.part.text.items (xs ++ rest) all at.part.is_begun) (ap (λ ss. chosen c.args.user (traced_after inv.before (zip ss inv.rs))) next ∙ reply.2) (inv.parted first rest all p);
    }

pub returns-clause-ok : goal.returns-clause-ok
returns-clause-ok g c = λ first rest all p.
    let at = c.loop-asked in
    let inv = at.invariant in
    let none : zip (map asked at.asked-iterator) inv.rs ≡ [] = ap (λ xs. zip (map asked xs) inv.rs) c.in-None.ensures.steps.0 in
    subst (λ xs. Parted first (g.W.Write.contents at.writer) at.part.text.items xs all at.part.is_begun) (none-left c.args.user inv.before (map asked at.asked-iterator) inv.rs rest none) (inv.parted first rest all p)
