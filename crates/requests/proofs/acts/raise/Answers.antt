use Rattle.requests.proofs.CommonNames.{rules, ◌≡◌, ℕ, ◌≤◌, Some, refl, sym, ap, ◌∙◌, le-leb, LwpData, ProcData, Rows, Settings, post, raises}
use Rattle.requests.proofs.acts.raise.Goals as goal

posts : (settings : Settings) (s : ℕ) (p : ProcData) (l : LwpData) (rows : Rows) → 1 ≤ s → s ≤ 31 → (raises settings s p l rows).rows ≡ post settings s (Some l.tid) p.pid rows
posts settings s p l rows least greatest = rw (le-leb 1 s least, le-leb s 31 greatest) refl

pub returns-else-eq : goal.returns-else-eq
returns-else-eq c =
    let p = c.args.p.now in
    let l = c.args.l.now in
    let number = c.in-Ok.ensures.1 in
    record { rows = c.post_lwp.ensures.rows ∙ (ap (λ n. post c.args.settings n (Some l.tid) p.pid c.args.tables.now.rows) number ∙ sym (posts c.args.settings c.args.number p l c.args.tables.now.rows c.in-Ok.ensures.0.0 c.in-Ok.ensures.0.1)); reply = search rules }
