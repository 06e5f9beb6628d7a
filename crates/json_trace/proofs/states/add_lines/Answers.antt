use Rattle.std.proofs.Common.{ℕ, List, Option, ◌≡◌, ◌++◌, ◌+◌, ◌∷◌, ◌∙◌, [], None, Some, true, false, ap, ap₂, get_or, replicate, set, sym, subst, refl, arith, length, map}
use Rattle.std.specs.Prelude.{Err}
use Rattle.std.proofs.lemmas.List.{get_or-replicate, length-map, length-set}
use Rattle.pid_blocks.specs.{Blocks.slot, Users.IsUser}
use Rattle.requests.proofs.IsolationLaws.{keeps_apart}
use Rattle.requests.specs.{Isolation.{Apart, host_after, reply_of}, Machine.{Machine, empty}, View.{View, view}}
use Rattle.step_types.specs.{Plain.{PlainStep, UserStep}, declared.Reply.Reply}
use Rattle.visibility.proofs.Apart.{users_are_apart_at_first}
use Rattle.scenario_text.specs.Plan.{asked}
use Rattle.scenario_runs.specs.{Lines.shows, Parts.Parted, declared.running.RunFault.RunFault}
use Rattle.scenario_runs.proofs.LineLemmas.{counted_few, counted_more, counted_number, counted_start}
use Rattle.json_trace.specs.{Changes.{rows_after, rows_line, rows_shown}, Parts.Stopped, Seen.{lwps_in, processes_in}, Traces.chosen}
use Rattle.json_trace.proofs.StateLemmas.{HasSeen, rows-other, rows-shown, seen-more, seen-still}
use Rattle.json_trace.proofs.TraceLemmas.{chosen-none}
use Rattle.json_trace.proofs.WriteLemmas.{handed}
use Rattle.json_trace.proofs.states.add_lines.Goals as goal

pub loop-asked-init : goal.loop-asked-init
loop-asked-init g c =
    let plan = c.args.scenario.now in
    let it = c.into_iter-asked-iterator.result in
    let own = ap (map asked) c.into_iter-asked-iterator.ensures.into_iter_gives ∙ c.iter-asked-items.ensures in
    let steps : map asked it ≡ plan.steps = own ∙ ap (λ p. p.steps) c.scenario.view_is in
    let host : c.new-session.result.host ≡ empty plan.settings = ap (λ s. s.host) c.new-session.ensures ∙ ap (λ p. empty p.settings) c.scenario.view_is in
    let views = c.in_ok-seen.ensures in
    record {
      before = [];
      counted = counted_start;
      index = refl;
      few = let long : length it ≡ c.len-count.result = sym (length-map it asked) ∙ ap length own ∙ sym c.len-count.ensures in omega (arith, long);
      apart = rw host (users_are_apart_at_first plan.settings);
      long = rw views refl;
      seen = λ u user shown. let none : get_or c.in_ok-seen.seen.views.items (slot u) None ≡ None = ap (λ vs. get_or vs (slot u) None) views ∙ get_or-replicate 64 (slot u) None None (omega (arith, user.0, user.1)) in
          rw (none, host) (record { processes = refl; lwps = refl; once_processes = tt; once_lwps = tt });
      parted = λ first all p. rw (steps, host) p;
    }

pub count_reply-number-requires : goal.count_reply-number-requires
count_reply-number-requires g c = λ k.
    let inv = c.loop-asked.invariant in
    let few = counted_few c.loop-asked.made inv.before inv.counted k in
    let one = ap length c.in-Some.ensures.steps in
    let place = inv.few in
    let bound = c.len-count.type_inv in omega (arith, few, one, place, bound)

pub returns-in_err-make-clause-err : goal.returns-in_err-make-clause-err
returns-in_err-make-clause-err g c =
    let at = c.loop-asked in
    let new = g.W.Write.contents at.writer in
    let part = c.args.part.now in
    let fault = c.in_err-make.field-0.0 in
    let kind = c.in_err-make.ensures.err in
    handed (λ (e : RunFault). (before : Option (List ℕ)) (all : List ℕ) → Parted before (g.W.Write.contents c.args.writer.now) part.text.items (rows_shown c.args.user c.args.scenario.now) all part.is_begun → Stopped e before new at.part.text.items all at.part.is_begun)
    c.from_residual-in_err-make.result fault c.from_residual-in_err-make.ensures.1
    (λ before all p. subst (λ (e : RunFault). Stopped e before new at.part.text.items all at.part.is_begun) (sym kind) (chosen c.args.user (rows_after at.invariant.before (map asked at.asked-iterator) at.session.host), at.invariant.parted before all p))

pub loop-asked-preserved-in-Continue-branch-3 : goal.loop-asked-preserved-in-Continue-branch-3
loop-asked-preserved-in-Continue-branch-3 g c =
    let at = c.loop-asked in
    let inv = at.invariant in
    let x = c.in-Some.asked in
    let more = map asked c.next.new.self in
    let next = ap (map asked) c.in-Some.ensures.steps in
    let one = ap length c.in-Some.ensures.steps in
    let place = inv.few in
    let range = c.count_reply-number.ensures.range in
    let user : IsUser x.0 = (range.0, range.1) in
    let number = c.count_reply-number.ensures.number ∙ ap (λ n. n + 1) (counted_number at.made inv.before x.0 range.0 range.1 inv.counted) in
    let shown = sym c.is_shown.ensures ∙ c.if-is_shown.true in
    let bound = c.len-count.type_inv in
    let index : c.saturating_add-index.result ≡ length inv.before + 1 = grind (arith, c.saturating_add-index.ensures, inv.index, one, place, bound) in
    let host = c.in_ok-make.ensures.host in
    let sees = c.in_ok-add_line.ensures.seen in
    let o = get_or at.seen.views.items (slot x.0) None in
    let text = rows-shown c.args.user inv.before x (map asked at.asked-iterator) more at.session.host c.make.new.session.host c.count_reply-number.result c.saturating_add-index.result o shown next host number index (inv.seen x.0 user shown) in
    record {
      before = x.0 ∷ inv.before;
      counted = rw (c.count_reply-number.ensures.after, c.count_reply-number.ensures.number) (counted_more at.made inv.before x.0 range.0 range.1 inv.counted);
      index = index ∙ omega arith;
      few = omega (arith, one, place);
      apart = rw host (keeps_apart at.session.host x.0 x.1 user inv.apart);
      long = ap length sees ∙ length-set at.seen.views.items (slot x.0) (Some (view x.0 c.make.new.session.host)) ∙ inv.long;
      seen = λ w is sh.
          let v = view x.0 c.make.new.session.host in
          let all = set at.seen.views.items (slot x.0) (Some v) in
          let more = seen-more at.seen.views.items at.session.host x.0 x.1 v c.args.user user inv.long inv.apart (ap (view x.0) host) c.in_ok-add_line.ensures.differ inv.seen w is sh in
          subst (λ vs. HasSeen (get_or vs (slot w) None) (view w c.make.new.session.host)) (sym sees) (subst (λ (k : Machine). HasSeen (get_or all (slot w) None) (view w k)) (sym host) more);
      parted = λ first all p.
          c.in_ok-add_line.ensures.ok first (chosen c.args.user (rows_after (x.0 ∷ inv.before) more c.make.new.session.host)) all (reply_of x.0 x.1 at.session.host) c.in_ok-make.ensures.reply
          (subst (λ xs. Parted first (g.W.Write.contents at.writer) at.part.text.items xs all at.part.is_begun) text (inv.parted first all p));
    }

pub returns-in_err-add_line-clause-err : goal.returns-in_err-add_line-clause-err
returns-in_err-add_line-clause-err g c =
    let at = c.loop-asked in
    let inv = at.invariant in
    let x = c.in-Some.asked in
    let more = map asked c.next.new.self in
    let next = ap (map asked) c.in-Some.ensures.steps in
    let one = ap length c.in-Some.ensures.steps in
    let place = inv.few in
    let range = c.count_reply-number.ensures.range in
    let user : IsUser x.0 = (range.0, range.1) in
    let number = c.count_reply-number.ensures.number ∙ ap (λ n. n + 1) (counted_number at.made inv.before x.0 range.0 range.1 inv.counted) in
    let shown = sym c.is_shown.ensures ∙ c.if-is_shown.true in
    let bound = c.len-count.type_inv in
    let index : c.saturating_add-index.result ≡ length inv.before + 1 = grind (arith, c.saturating_add-index.ensures, inv.index, one, place, bound) in
    let host = c.in_ok-make.ensures.host in
    let o = get_or at.seen.views.items (slot x.0) None in
    let text = rows-shown c.args.user inv.before x (map asked at.asked-iterator) more at.session.host c.make.new.session.host c.count_reply-number.result c.saturating_add-index.result o shown next host number index (inv.seen x.0 user shown) in
    let new = g.W.Write.contents c.add_line.new.writer in
    let part = c.args.part.now in
    handed (λ (e : RunFault). (before : Option (List ℕ)) (all : List ℕ) → Parted before (g.W.Write.contents c.args.writer.now) part.text.items (rows_shown c.args.user c.args.scenario.now) all part.is_begun → Stopped e before new c.add_line.new.part.text.items all c.add_line.new.part.is_begun)
    c.from_residual-in_err-add_line.result c.in_err-add_line.field-0.0 c.from_residual-in_err-add_line.ensures.1
    (λ before all p. c.in_err-add_line.ensures.err before (chosen c.args.user (rows_after (x.0 ∷ inv.before) more c.make.new.session.host)) all (reply_of x.0 x.1 at.session.host) c.in_ok-make.ensures.reply
    (subst (λ xs. Parted before (g.W.Write.contents at.writer) at.part.text.items xs all at.part.is_begun) text (inv.parted before all p)))

pub loop-asked-preserved : goal.loop-asked-preserved
loop-asked-preserved g c =
    let at = c.loop-asked in
    let inv = at.invariant in
    let x = c.in-Some.asked in
    let more = map asked c.next.new.self in
    let next = ap (map asked) c.in-Some.ensures.steps in
    let one = ap length c.in-Some.ensures.steps in
    let place = inv.few in
    let range = c.count_reply-number.ensures.range in
    let user : IsUser x.0 = (range.0, range.1) in
    let other = sym c.is_shown.ensures ∙ c.if-is_shown.false in
    let bound = c.len-count.type_inv in
    let host = c.in_ok-make.ensures.host in
    let text = rows-other c.args.user inv.before x (map asked at.asked-iterator) more at.session.host c.make.new.session.host other next host in
    record {
      before = x.0 ∷ inv.before;
      counted = rw (c.count_reply-number.ensures.after, c.count_reply-number.ensures.number) (counted_more at.made inv.before x.0 range.0 range.1 inv.counted);
      index = grind (arith, c.saturating_add-index.ensures, inv.index, one, place, bound);
      few = omega (arith, one, place);
      apart = rw host (keeps_apart at.session.host x.0 x.1 user inv.apart);
      long = inv.long;
      seen = λ w is shown. rw host (seen-still at.seen.views.items at.session.host x.0 w x.1 user is (λ same. absurd (cc (other, shown, same))) inv.apart (inv.seen w is shown));
      parted = λ first all p. subst (λ xs. Parted first (g.W.Write.contents at.writer) at.part.text.items xs all at.part.is_begun) text (inv.parted first all p);
    }

pub returns-clause-ok : goal.returns-clause-ok
returns-clause-ok g c = λ first all p.
    let at = c.loop-asked in
    let inv = at.invariant in
    let none : chosen c.args.user (rows_after inv.before (map asked at.asked-iterator) at.session.host) ≡ [] = ap (λ xs. chosen c.args.user (rows_after inv.before (map asked xs) at.session.host)) c.in-None.ensures.steps.0 ∙ chosen-none c.args.user in
    subst (λ xs. Parted first (g.W.Write.contents at.writer) at.part.text.items xs all at.part.is_begun) none (inv.parted first all p)
