use Rattle.trace_stop.proofs.CommonNames.{◌≡◌, true, false, eqb, eqb-true, sym, ap, ◌∙◌, SIGKILL, end, live_row, post_sound}
use Rattle.trace_stop.proofs.posting.post_to.Goals as goal

pub returns-then-eq-clause-rows : goal.returns-then-eq-clause-rows
returns-then-eq-clause-rows c =
    let s = c.args.signal in
    let kill : eqb s SIGKILL ≡ true = sym c.eq.ensures ∙ c.if-eq.true in
    rw kill (c.end.ensures.rows ∙ ap (λ n. end c.args.settings c.args.process.now.pid n c.args.tables.now.rows) (c.number.ensures.number ∙ eqb-true s SIGKILL kill))

pub returns-else-eq-clause-sound : goal.returns-else-eq-clause-sound
returns-else-eq-clause-sound c =
    let row = live_row c.args.tables.now.rows c.args.process.now.pid c.requires.sound.stands.rising c.requires.live in
    let other : eqb c.args.signal SIGKILL ≡ false = sym c.eq.ensures ∙ c.if-eq.false in
    rw c.post_other.ensures (rw other at (post_sound c.args.tables.now.rows c.args.process.now.pid row.0 c.requires.sound row.1 row.2 c.args.settings c.args.signal c.args.to.now))
