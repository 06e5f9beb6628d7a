-- What the options and the operand of a command line ask for.
use Rattle.std.specs.{Prelude.{ℕ, ◌==◌, Bool, true, false, not, List, Option, Some, None, is_some, bytes_eq, codes, if◌then◌else◌}, Borrow.Bor}
use Rattle.{pid_blocks.specs.Users.IsUser, tracehost.specs.declared.asking.{Arguments.Arguments, Expectation.Expectation, RunRequest.RunRequest, Mode.{Mode, TheVariants.{Scenario, Lines, List as ListMode}}, Selection.Selection, Terminals.Terminals}}
use Rattle.scenario_runs.specs.declared.style.Style.{Style, TheVariants.{Text, Json}}

-- the arguments of a command line that has only an operand
abbrev pub only_file : Bor (List ℕ) → Arguments
only_file file =
    record {
      file = Some file;
      explain = None;
      user = None;
      threads = false;
      expect = None;
      bless = false;
      list = None;
      json = None;
      lines = false;
      kill_on_debugger_exit = None;
    }

-- whether a word is given, and is this one
abbrev pub has_value : Option (Bor (List ℕ)) → List ℕ → Bool
has_value None value = false
has_value (Some given) value = bytes_eq given.now value

-- the file of the input; none for standard input, which `-` names too
abbrev pub input_by : Option (Bor (List ℕ)) → Option (Bor (List ℕ))
input_by file = if has_value file (codes "-") then None else file

-- whether refused input is explained: always, never, or if standard error is a terminal
abbrev pub explains_by : Option (Bor (List ℕ)) → Bool → Bool
explains_by explain on_terminal =
    if has_value explain (codes "always") then true else (if has_value explain (codes "never") then false else on_terminal)

-- JSON with --json, whatever its word
abbrev pub style_by : Option (Bor (List ℕ)) → Style
style_by json = if is_some json then Json else Text

-- whether a debugger's end kills what it traces: unless the number is 0
abbrev pub kills_by : Option ℕ → Bool
kills_by None = true
kills_by (Some number) = not (number == 0)

-- a number of --user, if there is one, is a user's
abbrev pub IsUserOrNone : Option ℕ → Type 0
IsUserOrNone None = Unit {0}
IsUserOrNone (Some number) = IsUser number

-- only the lines of this user, or without --user those of all users
abbrev pub shown_by : Arguments → Option ℕ → Selection
shown_by arguments user =
    record {
      user = user;
      style = style_by arguments.json;
      threads = arguments.threads;
      trace = has_value arguments.json (codes "trace");
      rows = has_value arguments.json (codes "trace+rows");
    }

-- the file of --expect, which gets the lines with --bless
abbrev pub expectation_by : Option (Bor (List ℕ)) → Bool → Option Expectation
expectation_by None bless = None
expectation_by (Some path) bless = Some (record { path = path; blesses = bless })

-- with --expect-list the scenarios of a list, and else one
abbrev pub run_by : Option (Bor (List ℕ)) → Selection → Option Expectation → Mode
run_by None shown expected = Scenario shown expected
run_by (Some path) shown expected = ListMode path shown

-- with --lines a session line by line, and else scenarios
abbrev pub mode_by : Arguments → Option ℕ → Mode
mode_by arguments user = if arguments.lines
    then Lines (kills_by arguments.kill_on_debugger_exit) (style_by arguments.json)
    else run_by arguments.list (shown_by arguments user) (expectation_by arguments.expect arguments.bless)

abbrev pub asked_by : Arguments → Terminals → RunRequest
asked_by arguments terminals = record {
  file = input_by arguments.file;
  explains = explains_by arguments.explain terminals.error;
  mode = mode_by arguments arguments.user;
}
