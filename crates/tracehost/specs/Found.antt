-- The options and the operand among what clap found, which it keeps under the names that the program gave them.
use Rattle.std.specs.{Prelude.{◌≡◌, ◌≢◌, ℕ, Bool, true, false, List, [], Option, Some, None, option_map, codes, drop, length, slice_get, string_bytes}, Borrow.Bor, Str.Parse.{digits_value, without_leading_plus}}
use Rattle.{clap.specs.{Matches.{first_value, one_text}, declared.parser.matches.Found.Found}, tracehost.specs.{declared.asking.{Arguments.Arguments, RunRequest.RunRequest, Terminals.Terminals}, Asking.{IsUserOrNone, asked_by, only_file}, Given.{Word, are_so}}}

-- the word that was found, or none
abbrev pub IsWord : Found → List ℕ → Option (Bor (List ℕ)) → Type 0
IsWord found name word = option_map (λ given. given.now) word ≡ first_value found name

-- the number that a text has in decimal digits; none without a text
abbrev pub IsNumber : Option (List ℕ) → Option ℕ → Type 0
IsNumber text number = number ≡ option_map (λ digits. digits_value 10 (without_leading_plus digits)) text

-- whether an option without a value was found: clap keeps `true` for it, and `false` for one that isn't there
pub record IsFlag (text : Option (List ℕ)) (flag : Bool) : Type 0 where
  pub missing : text ≡ None → flag ≡ false
  pub given : text ≡ Some (codes "true") → flag ≡ true
  pub not_given : text ≡ Some (codes "false") → flag ≡ false

-- the words, numbers and flags as they were found; a number is none only without its option
pub record IsIn (found : Found) (arguments : Arguments) : Type 0 where
  pub file : IsWord found (codes "FILE") arguments.file
  pub explain : IsWord found (codes "WHEN") arguments.explain
  pub expect : IsWord found (codes "expect") arguments.expect
  pub list : IsWord found (codes "LIST") arguments.list
  pub json : IsWord found (codes "json") arguments.json
  pub user : IsNumber (one_text found (codes "UID")) arguments.user
  pub kill : IsNumber (one_text found (codes "0|1")) arguments.kill_on_debugger_exit
  pub threads : IsFlag (one_text found (codes "threads")) arguments.threads
  pub lines : IsFlag (one_text found (codes "lines")) arguments.lines
  pub bless : IsFlag (one_text found (codes "bless")) arguments.bless

-- the only word after the program's name, which isn't empty and doesn't begin with `-` (45)
pub record IsAlone (words : List Word) (file : List ℕ) : Type 0 where
  pub count : length words ≡ 2
  pub word : option_map (λ word. string_bytes word) (slice_get words 1) ≡ Some file
  pub some : file ≢ []
  pub operand : slice_get file 0 ≢ Some 45

-- the arguments of these words: an operand alone; or what clap found, set as the words after the program's name say
pub data AreOf (words : List Word) (arguments : Arguments) : Type 0 where
  alone : (file : Bor (List ℕ)) → IsAlone words file.now → arguments ≡ only_file file → AreOf words arguments
  found : (found : Found) → IsIn found arguments → are_so (drop 1 words) arguments ≡ true → AreOf words arguments

-- what the words of a command line ask for
pub record IsAsked (words : List Word) (terminals : Terminals) (asked : RunRequest) : Type 0 where
  pub arguments : Arguments
  pub of : AreOf words arguments
  pub user : IsUserOrNone arguments.user
  pub exact : asked ≡ asked_by arguments terminals
