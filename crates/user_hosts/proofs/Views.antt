-- A machine of all users, and a machine of one view for each.
use Rattle.requests.proofs.CommonNames.{◌≡◌, ℕ, ◌∷◌, [], refl, sym, ap, ap₂, ◌∙◌, inl, inr, IsUser, PlainStep, Machine}
use Rattle.requests.specs.Isolation.{Apart, reply_of, host_after}
use Rattle.requests.specs.View.{View, view, with_view}
use Rattle.std.proofs.lemmas.Bool.Decides.{eqb_tells}
use Rattle.requests.proofs.IsolationLaws.{alone_law, keeps_apart, other_step}
use Rattle.user_hosts.specs.Laws.{own_reply, own_after, ManyAreOne}

-- after a step, the views are those of the one machine
seen_after : (u : ℕ) (s : PlainStep) (m : Machine) (views : ℕ → View) → IsUser u → Apart m → ((w : ℕ) → IsUser w → views w ≡ view w m)
    → (w : ℕ) → IsUser w → own_after u s views w ≡ view w (host_after u s m)
seen_after u s m views user apart same w other = elim (eqb_tells w u) [
  | inl h ↦ rw (h.0, same u user, h.1) (sym (alone_law m u s user apart).1)
  | inr h ↦ rw h.0 (same w other ∙ sym (other_step m w u s other user h.1 apart))
]

pub many_are_one : ManyAreOne
many_are_one [] m views all apart same = (refl, λ u user. sym (same u user))
many_are_one (a ∷ list) m views all apart same =
    let rest = many_are_one list (host_after a.uid a.step m) (own_after a.uid a.step views) all.1 (keeps_apart m a.uid a.step all.0 apart) (seen_after a.uid a.step m views all.0 apart same) in
    let head : reply_of a.uid a.step m ≡ own_reply a.uid a.step views = (alone_law m a.uid a.step all.0 apart).0 ∙ ap (λ v. reply_of a.uid a.step (with_view a.uid v)) (sym (same a.uid all.0)) in
    (ap₂ (λ r rs. r ∷ rs) head rest.0, rest.1)
