use Rattle.scenario_runs.proofs.CommonNames.{◌≡◌, ◌≤◌, ◌+◌, ◌++◌, ◌∷◌, ◌∙◌, [], List, ℕ, length, map, drop, refl, ap, sym, subst, arith, at_drop_all, string_bytes, Appends, answered}
use Rattle.std.specs.Prelude.{Err}
use Rattle.scenario_runs.specs.Runs.{Writes}
use Rattle.scenario_runs.proofs.LineLemmas.{counted_start, counted_more, counted_few, counted_number, shown_after, shown_none, shown_whole}
use Rattle.scenario_runs.proofs.PartLemmas.{parted_start, parted_more, parted_written, parted_failed, parted_fault, parted_end}
use Rattle.scenario_runs.proofs.running.write_lines.Goals as goal
use Rattle.scenario_runs.proofs.running.write_lines.Goals.{then-len-ge-PART+in_ok-write_whole, else-len-ge-PART}

pub loop-reply-init : goal.loop-reply-init
loop-reply-init g c =
    let options = c.args.options.now in
    let answers = map answered c.args.replies.now in
    record {
      before = [];
      few = refl;
      counted = counted_start;
      parted = parted_start _ _ _ _ (ap (λ text. text ++ shown_after options.style options.user [] answers) c.in_ok-text.ensures.bytes ∙ shown_whole options.style options.user answers);
    }

pub count_reply-number-requires : goal.count_reply-number-requires
count_reply-number-requires g c = λ k.
    let few = counted_few c.loop-reply.made c.loop-reply.invariant.before c.loop-reply.invariant.counted k in
    let place = c.loop-reply.invariant.few in omega arith

pub returns-in_err-write_whole-clause-writes : goal.returns-in_err-write_whole-clause-writes
returns-in_err-write_whole-clause-writes g c =
    let at = c.loop-reply in
    let options = c.args.options.now in
    let e = c.reply-item.result in
    let range = c.count_reply-number.ensures.range in
    let before = at.invariant.before in
    let number = c.count_reply-number.ensures.number ∙ ap (λ n. n + 1) (counted_number at.made before e.0 range.0 range.1 at.invariant.counted) in
    let next = parted_more options.style options.user c.args.replies.now at.reply-index e before c.count_reply-number.result _ _ _ _ _ at.is_begun c.loop-reply-test.true (sym c.reply-item.is)
    number c.in-Ok.ensures at.invariant.parted in
    let fault = c.in_err-write_whole.field-0.0 in
    let written = subst (λ bytes. Writes (Err fault) (g.W.Write.contents at.writer) (g.W.Write.contents c.write_whole.new.writer) bytes) c.as_bytes.ensures.value c.in_err-write_whole.ensures.writes in
    parted_failed _ _ _ _ fault _ _ _ at.is_begun c.from_residual-in_err-write_whole.ensures.1 c.in_err-write_whole.ensures.kind next written

pub loop-reply-preserved : goal.loop-reply-preserved
loop-reply-preserved g c =
    let at = c.loop-reply in
    let options = c.args.options.now in
    let e = c.reply-item.result in
    let range = c.count_reply-number.ensures.range in
    let before = at.invariant.before in
    let number = c.count_reply-number.ensures.number ∙ ap (λ n. n + 1) (counted_number at.made before e.0 range.0 range.1 at.invariant.counted) in
    let next = parted_more options.style options.user c.args.replies.now at.reply-index e before c.count_reply-number.result _ _ _ _ _ at.is_begun c.loop-reply-test.true (sym c.reply-item.is)
    number c.in-Ok.ensures at.invariant.parted in
    record {
      before = e.0 ∷ before;
      few = let few = at.invariant.few in omega arith;
      counted = rw (c.count_reply-number.ensures.after, c.count_reply-number.ensures.number) (counted_more at.made before e.0 range.0 range.1 at.invariant.counted);
      parted = elim c.if-len-ge-PART.branch [
        | then-len-ge-PART+in_ok-write_whole w ↦
            let written = subst (λ bytes. Appends (g.W.Write.contents at.writer) (g.W.Write.contents w.write_whole.new.writer) bytes) w.as_bytes.ensures.value w.in_ok-write_whole.ensures.writes in
            rw (w.writer-is, w.text-is, w.is_begun-is, w.clear.ensures.bytes) (parted_written _ _ _ _ _ _ at.is_begun next written)
        | else-len-ge-PART w ↦ rw (w.writer-is, w.text-is, w.is_begun-is) next
      ];
    }

pub returns-clause-writes : goal.returns-clause-writes
returns-clause-writes g c =
    let at = c.loop-reply in
    let options = c.args.options.now in
    let es = c.args.replies.now in
    let before = at.invariant.before in
    let past : length es ≤ at.reply-index = let done = c.loop-reply-test.false in omega (arith, done) in
    let none = at_drop_all (λ xs. shown_after options.style options.user before (map answered xs)) es at.reply-index past ∙ shown_none options.style options.user before in
    let written = subst (λ bytes. Writes c.write_whole-2.result (g.W.Write.contents at.writer) (g.W.Write.contents c.write_whole-2.new.writer) bytes) c.as_bytes-2.ensures.value c.write_whole-2.ensures.writes in
    parted_end _ _ _ c.write_whole-2.result _ _ _ at.is_begun none c.write_whole-2.ensures.kind at.invariant.parted written

pub returns-in_default-clause-writes : goal.returns-in_default-clause-writes
returns-in_default-clause-writes g c = parted_fault _ _ c.line_fault.result _ _ _ c.loop-reply.is_begun c.line_fault.ensures c.loop-reply.invariant.parted
