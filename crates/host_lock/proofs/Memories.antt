-- What is known of a step that found memory, and of a list that found none.
use Rattle.host_lock.proofs.CommonNames.{⊎_elim, ◌≡◌, ◌≢◌, ℕ, true, false, sym, ap, ◌∙◌, true≢false, PlainStep, Reply, reply_of, host_after, Machine, is_memory}
use Rattle.pid_blocks.specs.declared.Errno.TheVariants as errno
use Rattle.step_types.specs.declared.Reply.TheVariants as reply
use Rattle.step_types.specs.Replies.{is_listing}
use Rattle.requests.specs.Sound.{sound}
use Rattle.requests.proofs.RefusalsChangeNothing.{listing_same}
use Rattle.step_types.proofs.Replies.{other, cases_memory}

-- what a step that found memory did
pub steps : (u : ℕ) (s : PlainStep) (m after : Machine) (r : Reply) → is_memory r ≡ false → (r ≢ reply.Errno errno.ENOMEM → (after ≡ host_after u s m) × (r ≡ reply_of u s m))
    → (after ≡ host_after u s m) × (r ≡ reply_of u s m)
steps u s m after r plenty machine = machine (other r plenty)

memory_is : (r : Reply) → is_memory r ≡ true → r ≡ reply.Errno errno.ENOMEM
memory_is r is = ⊎_elim (λ wants. wants) (λ plenty. absurd (true≢false (sym is ∙ plenty))) (cases_memory r)

-- a call that ran out of memory changed nothing
pub wanted : (m after : Machine) (r : Reply) → is_memory r ≡ true → (r ≡ reply.Errno errno.ENOMEM → after ≡ m) → after ≡ m
wanted m after r wants same = same (memory_is r wants)

-- a list that couldn't be copied changed nothing
pub listed : (u : ℕ) (s : PlainStep) (m after : Machine) (r : Reply) → sound m ≡ true → is_memory r ≡ false → is_listing r ≡ true → (r ≢ reply.Errno errno.ENOMEM → (after ≡ host_after u s m) × (r ≡ reply_of u s m)) → after ≡ m
listed u s m after r is plenty lists machine =
    let did = machine (other r plenty) in
    did.0 ∙ listing_same u s m is (ap is_listing (sym did.1) ∙ lists)
