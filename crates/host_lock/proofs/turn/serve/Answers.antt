use Rattle.host_lock.proofs.CommonNames.{◌≡◌, ℕ, ◌∙◌, List, [], ◌∷◌, ◌++◌, true, false, sym, ap, subst, arith, rules, refl, Me, rest, reply_of, is_memory, PlainStep, Snapshot, Machine, Entry, replay, entry, View, Holding, Counted}
use Rattle.host_lock.proofs.CommonNames.{HostSlot, Present, Taken, snapshot_of, session_view, start_of, known_of, mine_of, HasTurned, history}
use Rattle.host_lock.proofs.Turns.{draws}
use Rattle.host_lock.proofs.Journey.{finds, is_out, counts_out, turned_none, turned_one}
use Rattle.host_lock.proofs.turn.serve.Goals as goal

-- the slot's value is the step that was taken a snapshot of
taken_is : {F J : Type 0} (u : ℕ) (v : View) (others : List (ℕ × HostSlot F J)) (shown : Snapshot PlainStep) (m : Me (HostSlot F J) View) (s : PlainStep) → shown.value ≡ s → m ≡ (v, (0, Taken u shown) ∷ others) → m ≡ (v, (0, Taken u (snapshot_of s)) ∷ others)
taken_is u v others shown m s is e = e ∙ ap (λ x. (v, (0, Taken u (snapshot_of x)) ∷ others)) is

-- the seat's view is made of its own parts
holds_slot : {F J : Type 0} (m : Me (HostSlot F J) View) (h : Machine) (ticket budget number : ℕ) (log mine : List Entry) (out : List (ℕ × HostSlot F J))
    → m ≡ (session_view h (Holding ticket) budget log number mine, out) → m ≡ (session_view (start_of m.0) (Holding ticket) m.0.budget (known_of m.0) number (mine_of m.0), out)
holds_slot m h ticket budget number log mine out is = rw is refl

pub fetch_add-ticket-requires : goal.fetch_add-ticket-requires
fetch_add-ticket-requires g c =
    let table = c.args.table.now in
    let seat = c.args.seat.now in (
      c.requires.table.1,
      omega (arith, c.requires.table.0.0),
      draws table.key.start.value table.key.sessions table.table_id.slots seat.id seat.me (ap (λ (m : Me (HostSlot g.row.F.Denot g.row.J.Denot) View). m.0.stage) c.requires.rests) c.requires.room,
    )

pub exchange-requires : goal.exchange-requires
exchange-requires g c =
    let t = c.await_ticket.ensures.taken in
    let held = ap (λ (m : Me (HostSlot g.row.F.Denot g.row.J.Denot) View). m.1) t.1 in
    let x : HostSlot g.row.F.Denot g.row.J.Denot = Present (history (start_of c.fetch_add-ticket.new.seat.me.0) t.0) in
    (search rules, (x, held ∙ ap (λ (l : List (ℕ × HostSlot g.row.F.Denot g.row.J.Denot)). (0, x) ∷ rest l) (sym held)))

pub give_back-requires-clause-out : goal.give_back-requires-clause-out
give_back-requires-clause-out g c =
    let told : is_memory c.make-reply.result ≡ true = sym c.is_memory.ensures ∙ c.if-is_memory.true in
    let f = finds c.args.seat.now.me c.fetch_add-ticket.new.seat.me c.await_ticket.new.seat.me c.exchange.new.seat.me c.args.user c.args.number c.fetch_add-ticket.result c.args.plain.now c.in-Present.state c.exchange.result c.requires.rests c.fetch_add-ticket.ensures.2
    c.await_ticket.ensures.taken c.exchange.ensures.2 c.in-Present.is (taken_is c.args.user _ _ _ _ _ c.of.ensures c.exchange.ensures.3) in
    λ κs lives. is_out c.args.number c.exchange.new.seat.me c.in-Present.state c.make-reply.new.self (Holding c.fetch_add-ticket.result) (Taken c.args.user (snapshot_of c.args.plain.now)) _ (mine_of c.args.seat.now.me.0) refl f.3 (c.make-reply.ensures.memory told)

pub count_up-requires-clause-holds : goal.count_up-requires-clause-holds
count_up-requires-clause-holds g c =
    let f = finds c.args.seat.now.me c.fetch_add-ticket.new.seat.me c.await_ticket.new.seat.me c.exchange.new.seat.me c.args.user c.args.number c.fetch_add-ticket.result c.args.plain.now c.in-Present.state c.exchange.result c.requires.rests c.fetch_add-ticket.ensures.2
    c.await_ticket.ensures.taken c.exchange.ensures.2 c.in-Present.is (taken_is c.args.user _ _ _ _ _ c.of.ensures c.exchange.ensures.3) in
    λ κs lives. holds_slot c.exchange.new.seat.me _ _ _ _ _ _ _ f.3

pub give_back-requires-2-clause-out : goal.give_back-requires-2-clause-out
give_back-requires-2-clause-out g c =
    let told : is_memory c.make-reply.result ≡ false = sym c.is_memory.ensures ∙ c.if-is_memory.false in
    let f = finds c.args.seat.now.me c.fetch_add-ticket.new.seat.me c.await_ticket.new.seat.me c.exchange.new.seat.me c.args.user c.args.number c.fetch_add-ticket.result c.args.plain.now c.in-Present.state c.exchange.result c.requires.rests c.fetch_add-ticket.ensures.2
    c.await_ticket.ensures.taken c.exchange.ensures.2 c.in-Present.is (taken_is c.args.user _ _ _ _ _ c.of.ensures c.exchange.ensures.3) in
    let state = c.in-Present.state in
    let r = c.make-reply.result in
    let P : PlainStep → Type 0 = λ s. (r ≡ reply_of c.args.user s (replay state.start state.log)) × (c.make-reply.new.self ≡ history state.start (state.log ++ entry c.args.user c.args.number s r ∷ [])) in
    let made = subst P (sym c.requires.plain) (c.make-reply.ensures.made told) in
    let now = counts_out c.args.seat.now.me c.exchange.new.seat.me c.count_up.new.seat.me c.args.user c.args.number c.fetch_add-ticket.result c.args.plain.now c.in-Present.state c.make-reply.new.self c.make-reply.result f c.count_up.ensures.counted made.0 made.1 in
    λ κs lives. is_out c.args.number c.count_up.new.seat.me c.make-reply.new.self c.make-reply.new.self (Counted c.fetch_add-ticket.result) (Taken c.args.user (snapshot_of c.args.plain.now)) _ _ refl now refl

pub returns-then-is_memory-clause-turned : goal.returns-then-is_memory-clause-turned
returns-then-is_memory-clause-turned g c =
    let told : is_memory c.make-reply.result ≡ true = sym c.is_memory.ensures ∙ c.if-is_memory.true in
    let f = finds c.args.seat.now.me c.fetch_add-ticket.new.seat.me c.await_ticket.new.seat.me c.exchange.new.seat.me c.args.user c.args.number c.fetch_add-ticket.result c.args.plain.now c.in-Present.state c.exchange.result c.requires.rests c.fetch_add-ticket.ensures.2
    c.await_ticket.ensures.taken c.exchange.ensures.2 c.in-Present.is (taken_is c.args.user _ _ _ _ _ c.of.ensures c.exchange.ensures.3) in
    let P : PlainStep → Type 0 = λ s. HasTurned c.args.seat.now.me.0 c.args.user c.args.number s c.make-reply.result c.give_back.new.seat.me in
    subst P c.requires.plain
    (turned_none c.args.seat.now.me c.exchange.new.seat.me c.give_back.new.seat.me c.args.user c.args.number c.fetch_add-ticket.result c.args.plain.now c.in-Present.state c.make-reply.new.self c.make-reply.result f told
    c.make-reply.ensures.legal (c.make-reply.ensures.memory told) c.give_back.ensures.released)

pub returns-clause-turned : goal.returns-clause-turned
returns-clause-turned g c =
    let told : is_memory c.make-reply.result ≡ false = sym c.is_memory.ensures ∙ c.if-is_memory.false in
    let f = finds c.args.seat.now.me c.fetch_add-ticket.new.seat.me c.await_ticket.new.seat.me c.exchange.new.seat.me c.args.user c.args.number c.fetch_add-ticket.result c.args.plain.now c.in-Present.state c.exchange.result c.requires.rests c.fetch_add-ticket.ensures.2
    c.await_ticket.ensures.taken c.exchange.ensures.2 c.in-Present.is (taken_is c.args.user _ _ _ _ _ c.of.ensures c.exchange.ensures.3) in
    let state = c.in-Present.state in
    let r = c.make-reply.result in
    let M : PlainStep → Type 0 = λ s. (r ≡ reply_of c.args.user s (replay state.start state.log)) × (c.make-reply.new.self ≡ history state.start (state.log ++ entry c.args.user c.args.number s r ∷ [])) in
    let made = subst M (sym c.requires.plain) (c.make-reply.ensures.made told) in
    let now = counts_out c.args.seat.now.me c.exchange.new.seat.me c.count_up.new.seat.me c.args.user c.args.number c.fetch_add-ticket.result c.args.plain.now state c.make-reply.new.self r f c.count_up.ensures.counted made.0 made.1 in
    let P : PlainStep → Type 0 = λ s. HasTurned c.args.seat.now.me.0 c.args.user c.args.number s r c.give_back-2.new.seat.me in
    subst P c.requires.plain
    (turned_one c.args.seat.now.me c.exchange.new.seat.me c.count_up.new.seat.me c.give_back-2.new.seat.me c.args.user c.args.number c.fetch_add-ticket.result c.args.plain.now state c.make-reply.new.self r f told
    c.make-reply.ensures.legal made.1 now c.give_back-2.ensures.released)
