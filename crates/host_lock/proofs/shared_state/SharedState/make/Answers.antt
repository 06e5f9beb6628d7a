use Rattle.host_lock.proofs.CommonNames.{◌≡◌, List, [], ◌∷◌, ◌++◌, ◌∙◌, sym, ap, subst, Users, PlainStep, Entry, asked, entry}
use Rattle.host_lock.proofs.Logs.{made, users_more}
use Rattle.host_lock.proofs.shared_state.SharedState.make.Goals as goal

pub invariant_of-self-2 : goal.invariant_of-self-2
invariant_of-self-2 g c =
    let e : Entry = entry c.args.user c.args.session (g.H.OwnHandler.plain c.args.step) c.answered-reply.result in
    let before : List Entry = g.J.CallLog.entries c.self.inside.journal in
    let after : List Entry = g.J.CallLog.entries c.add.new.self in
    let did = c.answered-reply.ensures.made (sym c.is_memory.ensures ∙ c.if-is_memory.false) in
    let longer : after ≡ before ++ e ∷ [] =
    c.in-Ok.ensures.added ∙ ap (λ (step : PlainStep). g.J.CallLog.entries c.make_room.new.self ++ entry c.args.user c.args.session step c.answered-reply.result ∷ []) c.requires.plain ∙ ap (λ (l : List Entry). l ++ e ∷ []) c.make_room.ensures.same in
    let now = made c.self.inside.start.value c.as_mut.result.now c.answered-reply.new.host before after e c.self.invariant.0 (c.as_mut.ensures.value ∙ c.self.invariant.1) did.0 did.1 longer in
    (now.0, now.1, subst (λ (l : List Entry). Users (asked l)) (sym longer) (users_more before e c.self.invariant.2 c.get-number.ensures.user))

pub returns-clause-legal : goal.returns-clause-legal
returns-clause-legal g c =
    let e : Entry = entry c.args.user c.args.session (g.H.OwnHandler.plain c.args.step) c.answered-reply.result in
    let before : List Entry = g.J.CallLog.entries c.self.inside.journal in
    let after : List Entry = g.J.CallLog.entries c.add.new.self in
    let did = c.answered-reply.ensures.made (sym c.is_memory.ensures ∙ c.if-is_memory.false) in
    let longer : after ≡ before ++ e ∷ [] =
    c.in-Ok.ensures.added ∙ ap (λ (step : PlainStep). g.J.CallLog.entries c.make_room.new.self ++ entry c.args.user c.args.session step c.answered-reply.result ∷ []) c.requires.plain ∙ ap (λ (l : List Entry). l ++ e ∷ []) c.make_room.ensures.same in
    (made c.self.inside.start.value c.as_mut.result.now c.answered-reply.new.host before after e c.self.invariant.0 (c.as_mut.ensures.value ∙ c.self.invariant.1) did.0 did.1 longer).0
