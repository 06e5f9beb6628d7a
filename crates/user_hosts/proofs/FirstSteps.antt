-- The first step of a user.
use Rattle.requests.proofs.CommonNames.{◌≡◌, ◌≢◌, ◌+◌, ◌-◌, ◌<◌, ℕ, Bool, true, false, not, Option, Some, None, option_map, refl, ap, ap₂, ◌∙◌, inl, inr, arith, IsUser, pid_block, tid_block, ESRCH, PlainStep, Step, Reply, Settings, Machine, empty, spawn_with}
use Rattle.std.specs.Prelude.{option_and_then, IfSome}
use Rattle.pid_blocks.specs.{declared.Block.Block, Blocks.next_free}
use Rattle.step_types.specs.Replies.{is_refusal}
use Rattle.requests.specs.CommonNames.{ENOMEM}
use Rattle.step_types.proofs.Replies.{cases_memory, other}
use Rattle.proc_table.specs.Fresh.{no_rows, fresh_pid, fresh_tid, is_process, is_lwp}
use Rattle.requests.specs.Isolation.{reply_of, host_after}
use Rattle.requests.specs.Leave.{Numbers, room_for_process}
use Rattle.requests.specs.Memory.{may_want}
use Rattle.requests.specs.Hosts.{Steps as HostSteps}
use Rattle.requests.specs.Making.{Makes}
use Rattle.pid_blocks.proofs.FirstFree.{first_free-here}
use Rattle.requests.proofs.IsolationLaws.{at_slot}
use Rattle.requests.proofs.SoundAfterSpawn.{empty_sound}

-- numbers are free
here : (b : Block) (taken : ℕ → Bool) → 0 < b.size → taken b.first ≡ false → next_free b b.first taken ≡ Some b.first
here b taken some free = rw (first_free-here taken (b.first + b.size - b.first) b.first (omega (arith, some)) free, next_free) refl

abbrev numbers : Option ℕ → Option ℕ → Option Numbers
numbers pid tid = option_and_then (λ p. option_map (λ t. record { pid = p; tid = t }) tid) pid

module _ (u : ℕ) (user : IsUser u) where
  pid_there : fresh_pid u no_rows ≡ Some (pid_block u).first
  pid_there = ap (λ n. next_free (pid_block u) n (is_process no_rows)) (at_slot (λ w. (pid_block w).first) u 0 user) ∙ here (pid_block u) (is_process no_rows) (omega arith) refl

  tid_there : fresh_tid u no_rows ≡ Some (tid_block u).first
  tid_there = ap (λ n. next_free (tid_block u) n (is_lwp no_rows)) (at_slot (λ w. (tid_block w).first) u 0 user) ∙ here (tid_block u) (is_lwp no_rows) (omega arith) refl

  room : room_for_process u no_rows ≡ numbers (Some (pid_block u).first) (Some (tid_block u).first)
  room = ap₂ numbers pid_there tid_there

  -- so a first spawn isn't refused
  spawns : (settings : Settings) → reply_of u Step.Spawn (empty settings) ≡ Reply.New (pid_block u).first (tid_block u).first
  spawns settings = ap (λ o. (spawn_with u no_rows o).reply) room

  wants : (settings : Settings) → may_want u Step.Spawn (empty settings) ≡ true
  wants settings = ap (λ r. not (is_refusal r)) (spawns settings)

  pub no_memory : (settings : Settings) → HostSteps u Step.Spawn (empty settings) (empty settings) (Reply.Errno ENOMEM)
  no_memory settings = record { machine = λ given. absurd (given refl); memory = λ wanted. (refl, wants settings); refused = λ no. refl; sound = empty_sound settings }

  -- a spawn that answers no new process has run out of memory
  pub unspawned : (settings : Settings) (m : Machine) (r : Reply) → HostSteps u Step.Spawn (empty settings) m r → ((pid tid : ℕ) → r ≢ Reply.New pid tid)
      → HostSteps u Step.Spawn (empty settings) (empty settings) r
  unspawned settings m r steps none = elim (cases_memory r) [
    | inl wanted ↦ rw wanted (no_memory settings)
    | inr given ↦ absurd (none _ _ ((steps.machine (other r given)).1 ∙ spawns settings))
  ]

-- a user without processes is answered ESRCH
nobody : (settings : Settings) (u : ℕ) (s : PlainStep) → s ≢ Step.Spawn → (empty settings ≡ host_after u s (empty settings)) × (Reply.Errno ESRCH ≡ reply_of u s (empty settings))
nobody settings u Step.Spawn other = absurd (other refl)
nobody settings u (Step.List caller) other = (refl, refl)
nobody settings u (Step.Sigaction caller sig d) other = (refl, refl)
nobody settings u (Step.Kill caller which sig) other = (refl, refl)
nobody settings u (Step.Wait4 caller which options) other = (refl, refl)
nobody settings u (Step.Install caller policy) other = (refl, refl)
nobody settings u (Step.Handle caller) other = (refl, refl)
nobody settings u (Step.Ptrace caller r target arg) other = (refl, refl)
nobody settings u (Step.Turn tid a) other = (refl, refl)

pub no_process : (settings : Settings) (u : ℕ) (s : PlainStep) → s ≢ Step.Spawn → HostSteps u s (empty settings) (empty settings) (Reply.Errno ESRCH)
no_process settings u s other = record { machine = λ given. nobody settings u s other; memory = λ wanted. absurd cc; refused = λ no. refl; sound = empty_sound settings }

-- ---- a step that may need a handler

pub unmade : (u : ℕ) (s : Option PlainStep) (m n : Machine) (r : Option Reply) → Makes u s m n r → r ≡ None → n ≡ m
unmade u None m n r made none = made.1
unmade u (Some s) m n None made none = absurd made
unmade u (Some s) m n (Some r) made none = cc none

pub refused_before : (u : ℕ) (s : Option PlainStep) (m n : Machine) (r : Option Reply) → Makes u s m n r → IfSome r (λ r. is_refusal r ≡ true → Some n ≡ Some m)
refused_before u None m n r made = rw made.0 tt
refused_before u (Some s) m n None made = tt
refused_before u (Some s) m n (Some r) made = λ no. ap (λ x. Some x) (made.refused no)
