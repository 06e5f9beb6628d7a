use Rattle.{std.{proofs.Common.{◌≡◌, refl, ap, subst, arith}, specs.Prelude.false}}
use Rattle.step_types.specs.{Replies.is_listing, Status.WordsDiffer, declared.Reply.Reply}
use Rattle.tracehost_c.specs.{Replies.{Alike, same, lwps, pids, status, handled, FlatFormsDiffer, HasStatus}}
use Rattle.tracehost_c.proofs.laws.flat_forms_differ.Goals as goal

same_flat : FlatFormsDiffer
same_flat (Reply.Status p s) (Reply.Status q t) e = subst (λ x. Alike (Reply.Status p s) (Reply.Status x t)) (λ k. (e k).pid) (status p s t (λ k. (e k).status))
same_flat (Reply.Lwps xs) (Reply.Lwps ys) e = lwps xs ys (λ k. (e k).count)
same_flat (Reply.Pids xs) (Reply.Pids ys) e = pids xs ys (λ k. (e k).count)
same_flat (Reply.Handled p s v i c) (Reply.Handled q t w j d) e =
    let rest : Reply.Handled p t v i c ≡ Reply.Handled q t w j d = grind arith in
    subst (Alike (Reply.Handled p s v i c)) rest (handled p s t v i c (λ k. (e k).status))
same_flat q r e = let one : q ≡ r = grind arith in subst (Alike q) one (same q)

-- replies with statuses that exist
of_alike : WordsDiffer → (q r : Reply) → Alike q r → HasStatus q → HasStatus r → is_listing q ≡ false → q ≡ r
of_alike differ q r (same x) has_q has_r no_list = refl
of_alike differ q r (status pid s t e) has_q has_r no_list = ap (Reply.Status pid) (differ s t has_q has_r e)
of_alike differ q r (handled pid s t view index d e) has_q has_r no_list = ap (λ x. Reply.Handled pid x view index d) (differ s t has_q has_r e)
of_alike differ q r lists has_q has_r no_list = absurd (cc)

pub returns-clause-alike : goal.returns-clause-alike
returns-clause-alike c = same_flat

pub returns-clause-same : goal.returns-clause-same
returns-clause-same c q r has_q has_r no_list flats = of_alike c.words_differ.ensures q r (same_flat q r flats) has_q has_r no_list
