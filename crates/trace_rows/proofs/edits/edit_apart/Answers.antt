use Rattle.trace_rows.proofs.CommonNames.{◌≡◌, true, Some, sym, ap, ◌∙◌, nat_eq, lwp_of, edited, map_lwps, set_lwp}
use Rattle.trace_rows.specs.Edits.{only, of_others}
use Rattle.trace_rows.proofs.OneEdited.{edited-put, edited-other, edited-absent, set_fits}
use Rattle.trace_rows.proofs.edits.edit_apart.Goals as goal

pub set_lwp-requires : goal.set_lwp-requires
set_lwp-requires c =
    let e = c.args.edit.now in
    let rows = c.args.tables.now.rows in
    let is : only e ≡ Some c.args.tid = c.requires in
    let mid : c.edit_alike.new.tables.rows ≡ map_lwps c.args.pid (edited (of_others e)) rows = c.edit_alike.ensures ∙ ap (λ x. map_lwps c.args.pid (edited x) rows) c.of_others.ensures in
    let found : lwp_of c.args.tid rows.lwps ≡ Some c.in-Some.l = sym c.lwp-found.ensures.row ∙ c.in-Some.is in
    let own : nat_eq c.in-Some.l.pid c.args.pid ≡ true = sym c.eq.ensures ∙ c.if-eq.true in
    rw (c.of.ensures, mid) (set_fits e c.args.pid c.args.tid is rows c.lwp-found.ensures.kept.differ c.in-Some.l found own)

pub returns-then-eq : goal.returns-then-eq
returns-then-eq c =
    let e = c.args.edit.now in
    let rows = c.args.tables.now.rows in
    let is : only e ≡ Some c.args.tid = c.requires in
    let mid : c.edit_alike.new.tables.rows ≡ map_lwps c.args.pid (edited (of_others e)) rows = c.edit_alike.ensures ∙ ap (λ x. map_lwps c.args.pid (edited x) rows) c.of_others.ensures in
    let found : lwp_of c.args.tid rows.lwps ≡ Some c.in-Some.l = sym c.lwp-found.ensures.row ∙ c.in-Some.is in
    let own : nat_eq c.in-Some.l.pid c.args.pid ≡ true = sym c.eq.ensures ∙ c.if-eq.true in
    c.set_lwp.ensures.rows ∙ (ap (λ x. set_lwp x c.edit_alike.new.tables.rows) c.of.ensures ∙ (ap (set_lwp (edited e c.in-Some.l)) mid ∙ edited-put e c.args.pid c.args.tid is rows c.lwp-found.ensures.kept.differ c.in-Some.l found own))

pub returns-else-eq : goal.returns-else-eq
returns-else-eq c =
    let e = c.args.edit.now in
    let rows = c.args.tables.now.rows in
    let is : only e ≡ Some c.args.tid = c.requires in
    c.edit_alike.ensures ∙ (ap (λ x. map_lwps c.args.pid (edited x) rows) c.of_others.ensures
    ∙ edited-other e c.args.pid c.args.tid is rows c.lwp-found.ensures.kept.differ c.in-Some.l (sym c.lwp-found.ensures.row ∙ c.in-Some.is) (sym c.eq.ensures ∙ c.if-eq.false))

pub returns-in_default : goal.returns-in_default
returns-in_default c =
    let e = c.args.edit.now in
    let rows = c.args.tables.now.rows in
    let is : only e ≡ Some c.args.tid = c.requires in
    c.edit_alike.ensures ∙ (ap (λ x. map_lwps c.args.pid (edited x) rows) c.of_others.ensures
    ∙ edited-absent e c.args.pid c.args.tid is rows c.lwp-found.ensures.kept.differ (sym c.lwp-found.ensures.row ∙ c.in_default.is))
