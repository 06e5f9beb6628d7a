-- Every number belongs to at most one user.
use Rattle.std.specs.Prelude.{ℕ, ◌≡◌}
use Rattle.pid_blocks.specs.{declared.Block.Block, Users.IsUser, Blocks.InBlock}

-- the blocks of different users have no number in common
abbrev pub IsApart : (ℕ → Block) → Type 0
IsApart block = (u v n : ℕ) → IsUser u → IsUser v → InBlock (block u) n → InBlock (block v) n → u ≡ v

-- no user's block of one kind has a number in common with any user's block of the other kind
abbrev pub NeverMeet : (ℕ → Block) → (ℕ → Block) → Type 0
NeverMeet block other = (u v n : ℕ) → IsUser u → IsUser v → InBlock (block u) n → ¬ InBlock (other v) n

-- the owner of each number of a user's block is that user
abbrev pub OwnsBlock : (ℕ → ℕ) → (ℕ → Block) → Type 0
OwnsBlock owner block = (u n : ℕ) → IsUser u → InBlock (block u) n → owner n ≡ u
