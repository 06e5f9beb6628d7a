-- A list of scenarios, each with the lines that are expected of it.
use Rattle.std.specs.Prelude.{◌≡◌, ◌≢◌, ◌≤◌, ℕ, List, [], ◌∷◌, ◌++◌, Option, IfSome, Ok}
use Rattle.std.specs.List.{AllByRecursion}
use Rattle.byte_lines.specs.Lines.{lines_in}
use Rattle.scenario_text.specs.{Plan.Plan, Scenarios.StandsFor}
use Rattle.tracehost.specs.{Runs.run_text, declared.asking.Selection.{Selection}, declared.listing.Tally.{Tally}}

-- the text with a name, if it is known
abbrev pub Known : Type 0
Known = List ℕ → Option (List ℕ)

-- the run of a scenario has the expected lines, if the texts with both names are known
abbrev pub RunsAs : Known → Selection → (scenario : List ℕ) → (expected : List ℕ) → Type 0
RunsAs known shown scenario expected = IfSome (known scenario) (λ input. IfSome (known expected) (λ lines.
    (plan : Plan) × StandsFor input (Ok plan) × (run_text shown plan ≡ lines)))

-- no byte of the text is this one
abbrev pub Lacks : List ℕ → ℕ → Type 0
Lacks text byte = AllByRecursion (λ other. other ≢ byte) text

-- a row is two names with a tab, byte 9, between them
pub record RowPasses (known : Known) (shown : Selection) (row : List ℕ) : Type 0 where
  pub scenario : List ℕ
  pub expected : List ℕ
  pub parts : row ≡ scenario ++ (9 ∷ expected)
  pub first : Lacks scenario 9
  pub runs : RunsAs known shown scenario expected

-- the lines that aren't empty
abbrev pub filled : List (List ℕ) → List (List ℕ)
filled [] = []
filled ([] ∷ lines) = filled lines
filled ((byte ∷ line) ∷ lines) = (byte ∷ line) ∷ filled lines

abbrev pub rows_in : List ℕ → List (List ℕ)
rows_in list = filled (lines_in list)

-- there is a row, and all of them pass
pub record ListPasses (known : Known) (shown : Selection) (list : List ℕ) : Type 0 where
  pub some : rows_in list ≢ []
  pub all : AllByRecursion (RowPasses known shown) (rows_in list)

-- nothing is to be said of any row
pub record IsClean (tally : Tally) : Type 0 where
  pub different : tally.different ≡ 0
  pub refused : tally.refused ≡ 0
  pub unread : tally.unread ≡ 0
