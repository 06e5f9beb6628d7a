-- The most sessions of a host, and the most calls of a session.
use Rattle.std.specs.Prelude.{ℕ}

abbrev pub max_sessions : ℕ
max_sessions = 64

abbrev pub max_calls : ℕ
max_calls = 4294967295
