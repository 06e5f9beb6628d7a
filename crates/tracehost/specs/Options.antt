-- The options of a run, by what the command line asks for.
use Rattle.{tracehost.specs.declared.asking.Selection.Selection, scenario_runs.specs.declared.running.LineOptions.LineOptions}

-- the lines of the user that is asked for, or of all users if none is, in the style that is asked for
abbrev pub line_options : Selection → LineOptions
line_options shown = record { user = shown.user; style = shown.style }
