-- The signals, as in the tables of signal(3) and sigaction(2).
use Rattle.std.specs.Prelude.{ℕ, ◌==◌, nat_eq, List, [], ◌∷◌, Option, find, codes, if◌then◌else◌}
use Rattle.std.specs.List.{join_by}
use Rattle.std.specs.Option.{option_map_or}
use Rattle.std.specs.Cmp.Lexicographic.{pointwise}
use Rattle.signals.specs.Sets.{numbers}
use Rattle.signals.specs.declared.Action.{Action}
use Rattle.signals.specs.declared.Action.TheVariants.{End, Stop, Discard}

-- a row: the signal's name, its number and its default action
pub record Row : Type 0 where
  pub name : List ℕ
  pub number : ℕ
  pub action : Action

abbrev pub row : List ℕ → ℕ → Action → Row
row name number action = record { name = name; number = number; action = action }

unfoldable pub table : List Row
table =
    row (codes "SIGHUP") 1 End
    ∷ row (codes "SIGINT") 2 End
    ∷ row (codes "SIGQUIT") 3 End
    ∷ row (codes "SIGILL") 4 End
    ∷ row (codes "SIGTRAP") 5 End
    ∷ row (codes "SIGABRT") 6 End
    ∷ row (codes "SIGEMT") 7 End
    ∷ row (codes "SIGFPE") 8 End
    ∷ row (codes "SIGKILL") 9 End
    ∷ row (codes "SIGBUS") 10 End
    ∷ row (codes "SIGSEGV") 11 End
    ∷ row (codes "SIGSYS") 12 End
    ∷ row (codes "SIGPIPE") 13 End
    ∷ row (codes "SIGALRM") 14 End
    ∷ row (codes "SIGTERM") 15 End
    ∷ row (codes "SIGURG") 16 Discard
    ∷ row (codes "SIGSTOP") 17 Stop
    ∷ row (codes "SIGTSTP") 18 Stop
    ∷ row (codes "SIGCONT") 19 Discard
    ∷ row (codes "SIGCHLD") 20 Discard
    ∷ row (codes "SIGTTIN") 21 Stop
    ∷ row (codes "SIGTTOU") 22 Stop
    ∷ row (codes "SIGIO") 23 Discard
    ∷ row (codes "SIGXCPU") 24 End
    ∷ row (codes "SIGXFSZ") 25 End
    ∷ row (codes "SIGVTALRM") 26 End
    ∷ row (codes "SIGPROF") 27 End
    ∷ row (codes "SIGWINCH") 28 Discard
    ∷ row (codes "SIGINFO") 29 Discard
    ∷ row (codes "SIGUSR1") 30 End
    ∷ row (codes "SIGUSR2") 31 End
    ∷ []

-- the name of the signal with the number
abbrev pub signal_name : ℕ → List ℕ
signal_name n = option_map_or (λ r. r.name) (find (λ r. r.number == n) table) []

-- the signal with the name
abbrev pub by_name : List ℕ → Option ℕ
by_name text = find (λ n. pointwise nat_eq (signal_name n) text) numbers

-- the name, for programmers, of what a process is resumed with
abbrev pub pass_name : ℕ → List ℕ
pass_name n = if n == 0 then codes "0" else signal_name n

-- the names of signals with ` | ` between them, as Rust's crate `bitflags` prints them
abbrev pub named : List ℕ → List ℕ
named [] = codes "0x0"
named (n ∷ ns) = join_by (λ m. signal_name m) (codes " | ") (n ∷ ns)
