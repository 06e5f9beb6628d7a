use Rattle.requests.proofs.CommonNames.{rules, ◌≡◌, ℕ, refl, sym, ap, ◌∙◌, disposition_of, default_action, LwpData, ProcData, Rows, Settings, end, takes_untraced, Action, Disposition}
use Rattle.requests.proofs.turn.take_untraced.Goals as goal

ended : (settings : Settings) (s : ℕ) (p : ProcData) (l : LwpData) (rows : Rows) → disposition_of p.dispositions s ≡ Disposition.Default → default_action s ≡ Action.End
    → (takes_untraced settings s (disposition_of p.dispositions s) p l rows).rows ≡ end settings p.pid s rows
ended settings s p l rows d a = rw (d, a) refl

pub returns-in-End : goal.returns-in-End
returns-in-End c =
    let p = c.args.p.now in
    let s = c.args.signal in
    let rows = c.args.tables.now.rows in
    record {
      rows = c.end.ensures.rows ∙ (ap (λ n. end c.args.settings p.pid n rows) c.number.ensures.number
          ∙ sym (ended c.args.settings s p c.args.l.now rows (sym c.get.ensures ∙ c.in-Default.is) (sym c.default_action.ensures ∙ c.in-End.is)));
      reply = search rules;
    }
