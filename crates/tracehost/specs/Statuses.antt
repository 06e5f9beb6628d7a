-- The exit status of a program that ends with a trouble.
use Rattle.std.specs.Prelude.{⊤, ◌≡◌, ◌⊎◌, ℕ}
use Rattle.{scenario_text.specs.Faults.fault_status, scenario_runs.specs.Runs.run_fault_status, open_sessions.specs.Sessions.serve_fault_status}
use Rattle.tracehost.specs.declared.CommandError.{CommandError}
use Rattle.tracehost.specs.declared.CommandError.TheVariants as trouble

-- 2 for a command line that is refused. A version that was asked for ends with 0, or with 3 if it can't be printed. 4 for
-- lines that aren't the expected ones; a list says its own status
abbrev pub IsStatus : CommandError → ℕ → Type 0
IsStatus (trouble.Command message) status = (status ≡ 2) ⊎ ((status ≡ 0) ⊎ (status ≡ 3))
IsStatus trouble.Words status = status ≡ 2
IsStatus trouble.User status = status ≡ 2
IsStatus trouble.Misread status = status ≡ 3
IsStatus (trouble.Fault f) status = status ≡ fault_status f
IsStatus (trouble.Explained f lines) status = status ≡ fault_status f
IsStatus (trouble.Run f) status = status ≡ run_fault_status f
IsStatus (trouble.Serve f) status = status ≡ serve_fault_status f
IsStatus (trouble.Unwritten reason) status = status ≡ 3
IsStatus (trouble.Different line) status = status ≡ 4
IsStatus (trouble.List line own) status = status ≡ own

-- the run's lines aren't the expected ones
abbrev pub IsDifferent : CommandError → Type 0
IsDifferent (trouble.Different line) = ⊤
IsDifferent other = ⊥
