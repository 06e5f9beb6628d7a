-- A reply is ENOMEM, or it isn't.
use Rattle.std.proofs.Common.{◌≡◌, ◌≢◌, false, sym, ap, ◌∙◌, true≢false, ◌⊎◌, arith}
use Rattle.std.proofs.lemmas.Bool.Decides.{nat_tests}
use Rattle.pid_blocks.specs.declared.Errno.{Errno}
use Rattle.step_types.specs.{Replies.is_memory, declared.Reply.Reply}

pub other : (r : Reply) → is_memory r ≡ false → r ≢ Reply.Errno Errno.ENOMEM
other r none is = true≢false (sym (ap is_memory is) ∙ none)

pub cases_memory : (r : Reply) → (r ≡ Reply.Errno Errno.ENOMEM) ⊎ (is_memory r ≡ false)
cases_memory r = grind (arith, nat_tests)
