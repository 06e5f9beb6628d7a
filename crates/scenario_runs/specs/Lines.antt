-- The text of a run.
use Rattle.std.specs.Prelude.{ℕ, ◌≡◌, ◌≤◌, ◌==◌, ◌+◌, Bool, true, List, [], ◌∷◌, ◌++◌, Option, Some, None, IfSome, if◌then◌else◌, map, filter, count_by, decimal, length}
use Rattle.std.specs.List.{join_with_byte, concat}
use Rattle.step_types.specs.{Words.reply_words, declared.Reply.Reply}
use Rattle.reply_json.specs.Replies.{reply_json}
use Rattle.scenario_runs.specs.{declared.lines.Words.TheInside.Inside, declared.style.Style.Style, declared.style.Style.TheVariants.Text, declared.style.Style.TheVariants.Json}

-- a reply and its user
pub record Answered : Type 0 where
  pub uid : ℕ
  pub reply : Reply

-- a line and its user
pub record Line : Type 0 where
  pub uid : ℕ
  pub text : List ℕ

-- a reply that is its user's n-th, as words or as a JSON object; 32 is a space
abbrev pub reply_text : Style → ℕ → Answered → List ℕ
reply_text Text n a = join_with_byte 32 (decimal a.uid ∷ decimal n ∷ reply_words a.reply)
reply_text Json n a = reply_json a.uid n a.reply

-- its line; 10 is a line feed
abbrev pub line : Style → ℕ → Answered → Line
line style n a = record { uid = a.uid; text = reply_text style n a ++ (10 ∷ []) }

-- the lines, each with its user's own number; `before` has the users of the lines before
abbrev pub lines_after : Style → List ℕ → List Answered → List Line
lines_after style before [] = []
lines_after style before (a ∷ rest) =
    line style (count_by (λ u. u == a.uid) before + 1) a ∷ lines_after style (a.uid ∷ before) rest

abbrev pub lines : Style → List Answered → List Line
lines style answers = lines_after style [] answers

abbrev pub lines_of : ℕ → List Line → List Line
lines_of u list = filter (λ l. l.uid == u) list

abbrev pub text_of : List Line → List ℕ
text_of list = concat (map (λ l. l.text) list)

-- the text in the order of steps
abbrev pub text : Style → List Answered → List ℕ
text style answers = text_of (lines style answers)

-- ---- the lines of the users that the options show

-- whether a user's lines are shown, if all users' or only one user's are
abbrev pub shows : Option ℕ → ℕ → Bool
shows None uid = true
shows (Some user) uid = uid == user

abbrev pub shown_line : Option ℕ → Line → List ℕ
shown_line user l = if shows user l.uid then l.text else []

-- the line begins with the user's number and a space, which are so many bytes, and few
pub record Begins (bytes : List ℕ) (kept user : ℕ) : Type 0 where
  pub rest : List ℕ
  pub is : bytes ≡ decimal user ++ (32 ∷ rest)
  pub size : kept ≡ length (decimal user) + 1
  pub few : kept ≤ 11

abbrev pub IsBegun : Inside → Type 0
IsBegun a = IfSome a.user (λ user. Begins a.line.bytes a.kept user)
