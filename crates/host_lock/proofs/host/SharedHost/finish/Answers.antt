use Rattle.host_lock.proofs.CommonNames.{◌≡◌, List, sym, ap, subst, Me, View, HostSlot, Entry, History, StartsWith, Each, Matches, InJournal}
use Rattle.host_lock.proofs.Closings.{stand, each_reverse}
use Rattle.host_lock.proofs.Totals.{all_of}
use Rattle.host_lock.proofs.host.SharedHost.finish.Goals as goal

pub returns-clause-sessions : goal.returns-clause-sessions
returns-clause-sessions g c =
    let got = c.join_seats-seat.ensures.seat in
    let log = c.take_state.result.log in
    let at : c.join_seats-seat.result.me.0 ≡ _ = ap (λ (m : Me (HostSlot g.row.F.Denot g.row.J.Denot) View). m.0) got.3 in
    let known = subst (λ (v : View). Each (StartsWith log) v.known) at c.take_state.ensures.known in
    let owns = subst (λ (v : View). Each (Matches c.self.inside.table.shared.key.sessions log) v.owns) at c.take_state.ensures.owns in
    let all : Each (InJournal log) c.args.sessions.items = subst (Each (InJournal log)) (sym got.2) (each_reverse (InJournal log) got.0 (stand c.self.inside.table.shared.key.sessions log got.0 known owns)) in
    all_of (InJournal _) c.args.sessions.items (subst (λ (l : List Entry). Each (InJournal l) c.args.sessions.items) (sym (ap (λ (k : History). k.log) c.host.view_is)) all)
