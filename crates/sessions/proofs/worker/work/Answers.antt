use Rattle.std.proofs.Common.{◌≡◌, ◌+◌, ◌++◌, [], ◌∷◌, List, sym, subst, ap, ◌∙◌, arith, rules, append_assoc, append-nil, length-append, length, map, refl}
use mathlib.Core.List.{map-append}
use Rattle.sessions.proofs.CommonNames.{into_iter_items, nil_from_length, PlainStep, SmallStep, own_step, HasMade}
use Rattle.step_types.specs.declared.Reply.{Reply}
use Rattle.sessions.proofs.Scripts.{did_more}
use Rattle.sessions.proofs.worker.work.Goals as goal

pub loop-step-init : goal.loop-step-init
loop-step-init g c =
    let all : into_iter_items c.into_iter-step-iterator.result ≡ c.args.steps.items = search rules in
    let left = ap length all in
    let count = c.args.steps.ok.0 in
    record {
      split = all;
      replies = [];
      did = subst (HasMade c.args.session [] []) (sym c.announce.ensures) (refl, refl, refl, refl, refl, c.requires.fresh.0, c.requires.fresh.1);
      few = omega (arith, left, count, c.requires.few);
      drafted = subst (λ n. g.T.Report.drafted c.args.draft c.args.report.value c.args.session.uid n []) (omega (arith, left, count)) c.requires.begun;
    }

pub loop-step-preserved : goal.loop-step-preserved
loop-step-preserved g c =
    let at = c.loop-step in
    let inv = at.invariant in
    let before : List Reply = inv.replies in
    let s : SmallStep = c.in-Some.step in
    let steps : into_iter_items at.step-iterator ≡ s ∷ into_iter_items c.next.new.self = c.in-Some.ensures.steps.0 in
    let less = ap length steps in
    let more = length-append at.yielded (s ∷ []) in
    let few = inv.few in
    let step = own_step s in
    let longer : map own_step at.yielded ++ step ∷ [] ≡ map own_step (at.yielded ++ s ∷ []) = sym (map-append own_step at.yielded (s ∷ [])) in
    let room : length (into_iter_items at.step-iterator) ≡ length (into_iter_items c.next.new.self) + 1 = omega arith in
    let report = c.args.report.value in
    let was = subst (λ n. g.T.Report.drafted at.draft report c.args.session.uid n before) room inv.drafted in
    record {
      split = append_assoc at.yielded (s ∷ []) _ ∙ rw (← steps) inv.split;
      replies = before ++ c.in-Reply.reply ∷ [];
      did = subst (λ (ss : List PlainStep). HasMade c.args.session ss (before ++ c.in-Reply.reply ∷ []) c.call.new.session) longer
          (did_more c.args.session at.session c.call.new.session (map own_step at.yielded) step before _ c.in-Reply.reply inv.did c.in-Reply.ensures.call refl);
      few = omega arith;
      drafted = c.add.ensures report c.args.session.uid _ before was;
    }

pub returns-clause-did : goal.returns-clause-did
returns-clause-did g c =
    let inv = c.loop-step.invariant in
    let none = nil_from_length _ (sym c.loop-step.step-iterator.rest.ok.0 ∙ c.in-None.ensures.steps.0) in
    let all = sym (append-nil c.loop-step.yielded) ∙ ap (λ (xs : List SmallStep). c.loop-step.yielded ++ xs) (sym none) ∙ inv.split in
    let did = subst (λ (steps : List SmallStep). HasMade c.args.session (map own_step steps) inv.replies c.loop-step.session) all inv.did in
    let made = (c.end.ensures c.args.report.value c.args.session.uid _ inv.replies inv.drafted).0 in
    subst (λ (rs : List Reply). HasMade c.args.session (map own_step c.args.steps.items) rs c.loop-step.session) (sym made) did

pub returns-clause-tells : goal.returns-clause-tells
returns-clause-tells g c =
    let inv = c.loop-step.invariant in
    (c.end.ensures c.args.report.value c.args.session.uid _ inv.replies inv.drafted).1
