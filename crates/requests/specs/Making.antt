-- A step that may need a handler, if none is given.
use Rattle.std.specs.Prelude.{◌≡◌}
use Rattle.requests.specs.CommonNames.{ℕ, Option, Some, None, Reply, PlainStep}
use Rattle.requests.specs.Hosts.{Steps}
use Rattle.requests.specs.Machine.{Machine}

-- the host after a user's step, and the reply; a step that needs a handler is not made
abbrev pub Makes : ℕ → Option PlainStep → Machine → Machine → Option Reply → Type 0
Makes u None m n r = (r ≡ None) × (n ≡ m)
Makes u (Some s) m n None = ⊥
Makes u (Some s) m n (Some r) = Steps u s m n r
