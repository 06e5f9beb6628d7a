-- The limits of a user.
use Rattle.std.specs.Prelude.{ℕ}

-- the most processes and LWPs of a user. So a chain of tracers has fewer links than there may be processes
abbrev pub max_processes : ℕ
max_processes = 250

abbrev pub max_lwps : ℕ
max_lwps = 1000
