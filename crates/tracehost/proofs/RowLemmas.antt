-- The rows of a list, one after another.
use Rattle.std.proofs.{Common.{◌≡◌, ◌≢◌, ◌≤◌, ℕ, List, [], ◌∷◌, ◌++◌, Option, Some, None, IfSome, refl, sym, ap, ◌∙◌, arith}, lemmas.List.{append_assoc, append-nil}}
use Rattle.std.specs.List.{AllByRecursion}
use Rattle.std.specs.Prelude.{Ok}
use Rattle.scenario_text.specs.Plan.{Plan}
use Rattle.scenario_text.specs.Scenarios.{StandsFor}
use Rattle.tracehost.specs.Runs.{run_text}
use Rattle.byte_lines.{specs.Lines.{lines_in}, proofs.LineLemmas.{lines_more, lines_last}}
use Rattle.tracehost.specs.{Lists.{Lacks, IsClean, Known, RowPasses, RunsAs, ListPasses, filled, rows_in}, declared.asking.Selection.{Selection}, declared.listing.Tally.{Tally}, declared.listing.Said.{Said}, declared.listing.Said.TheVariants.{Nothing}}

pub line_then : (text line behind : List ℕ) → text ≡ line ++ (10 ∷ behind) → Lacks line 10 → lines_in text ≡ line ∷ lines_in behind
line_then text line behind e lacks = rw e (lines_more line behind lacks)

pub last_line : (text : List ℕ) → Lacks text 10 → text ≢ [] → lines_in text ≡ text ∷ []
last_line [] lacks some = absurd (some refl)
last_line (x ∷ text) lacks some = lines_last x text lacks

pub ruleset first_row = (line_then, last_line)

all_push : (P : List ℕ → Type 0) (rows : List (List ℕ)) (row : List ℕ) → AllByRecursion P rows → P row → AllByRecursion P (rows ++ (row ∷ []))
all_push P [] row all one = (one, tt)
all_push P (first ∷ rows) row all one = (all.0, all_push P rows row all.1 one)

-- these rows were compared, and then the list goes on
pub record Walks (known : Known) (shown : Selection) (list rest : List ℕ) (tally : Tally) : Type 0 where
  pub before : List (List ℕ)
  pub rows : rows_in list ≡ before ++ rows_in rest
  pub some : 1 ≤ tally.compared → before ≢ []
  pub all : IsClean tally → AllByRecursion (RowPasses known shown) before

pub walks_start : (known : Known) (shown : Selection) (list : List ℕ) (tally : Tally) → tally.compared ≡ 0 → Walks known shown list list tally
walks_start known shown list tally none = record {
  before = [];
  rows = refl;
  some = λ some. grind (arith, none, some);
  all = λ _. tt;
}

not_none : (rows : List (List ℕ)) (row : List ℕ) → rows ++ (row ∷ []) ≢ []
not_none [] row e = grind (arith, e)
not_none (first ∷ rows) row e = grind (arith, e)

is_filled : (row : List ℕ) (lines : List (List ℕ)) → row ≢ [] → filled (row ∷ lines) ≡ row ∷ filled lines
is_filled [] lines some = absurd (some refl)
is_filled (byte ∷ row) lines some = refl

-- one row more
pub walks_row : (known : Known) (shown : Selection) (list rest row behind : List ℕ) (old new : Tally) (said : Said) → Walks known shown list rest old → lines_in rest ≡ row ∷ lines_in behind → row ≢ []
    → (said ≡ Nothing → RowPasses known shown row) → (IsClean new → IsClean old × (said ≡ Nothing)) → Walks known shown list behind new
walks_row known shown list rest row behind old new said w e some passes clean = record {
  before = w.before ++ (row ∷ []);
  rows = w.rows ∙ ap (λ xs. w.before ++ xs) (ap filled e ∙ is_filled row (lines_in behind) some) ∙ sym (append_assoc w.before (row ∷ []) (rows_in behind));
  some = λ _. not_none w.before row;
  all = λ now. all_push (RowPasses known shown) w.before row (w.all (clean now).0) (passes (clean now).1);
}

-- an empty line more
pub walks_on : (known : Known) (shown : Selection) (list rest behind : List ℕ) (tally : Tally) → Walks known shown list rest tally → lines_in rest ≡ [] ∷ lines_in behind → Walks known shown list behind tally
walks_on known shown list rest behind tally w e = record {
  before = w.before;
  rows = w.rows ∙ ap (λ xs. w.before ++ filled xs) e;
  some = w.some;
  all = w.all;
}

-- all rows were compared
pub walked : (known : Known) (shown : Selection) (list : List ℕ) (tally : Tally) → Walks known shown list [] tally → IsClean tally → 1 ≤ tally.compared → ListPasses known shown list
walked known shown list tally w clean compared =
    let whole = w.rows ∙ append-nil w.before in
    record {
      some = λ none. w.some compared (sym whole ∙ none);
      all = rw whole (w.all clean);
    }

-- a run whose text is the expected one
pub runs_as : (known : Known) (shown : Selection) (scenario expected : List ℕ) (plan : Plan) (wanted : List ℕ) → IfSome (known scenario) (λ input. StandsFor input (Ok plan))
    → IfSome (known expected) (λ lines. wanted ≡ lines) → Some wanted ≡ Some (run_text shown plan) → RunsAs known shown scenario expected
runs_as known shown scenario expected plan wanted stands is same = go (known scenario) (known expected) stands is
  where
    equal : wanted ≡ run_text shown plan
    equal = grind (arith, same)

    go : (a b : Option (List ℕ)) → IfSome a (λ input. StandsFor input (Ok plan)) → IfSome b (λ lines. wanted ≡ lines)
        → IfSome a (λ input. IfSome b (λ lines. (p : Plan) × StandsFor input (Ok p) × (run_text shown p ≡ lines)))
    go None b s i = tt
    go (Some input) None s i = tt
    go (Some input) (Some lines) s i = (plan, s, sym equal ∙ i)
