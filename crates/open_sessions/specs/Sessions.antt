-- A session line by line: each line of the input has one answer.
use Rattle.std.specs.{Prelude.{⊤, ◌≡◌, ◌⊎◌, ◌≤◌, ℕ, ◌==◌, ◌+◌, ◌-◌, ◌^◌, List, [], ◌∷◌, ◌++◌, length, take, Option, IfSome, Result, Ok, Err, count_by}, Io.KnownBytes.{Appends, Consumes, IsAtEnd}}
use Rattle.{requests.specs.Machine.Machine, scenario_runs.specs.{declared.style.Style.Style, Lines.line}, open_sessions.specs.Answers.{LineReply, AnswersLine, refusal}}
use Rattle.{open_sessions.specs.declared.serve_fault.ServeError.{ServeError, TheVariants.{Write, TooManyLines}}, byte_lines.specs.Lines.{lines_in, WholeLines}}

-- the answers to lines in order, on a host that is m before and k after them
abbrev pub AnswersLines : List (List ℕ) → Machine → List LineReply → Machine → Type 0
AnswersLines [] m [] k = k ≡ m
AnswersLines (l ∷ ls) m (r ∷ rs) k = (n : Machine) × AnswersLine l m r n × AnswersLines ls n rs k
AnswersLines ls m rs k = ⊥

-- ---- the text of answers

-- a line for each answer, a reply's with its user's own number; `before` has the users of the replies before
abbrev pub text_after : Style → List ℕ → List LineReply → List ℕ
text_after style before [] = []
text_after style before (Ok a ∷ rs) =
    (line style (count_by (λ u. u == a.uid) before + 1) a).text ++ text_after style (a.uid ∷ before) rs
text_after style before (Err f ∷ rs) = refusal style f ++ text_after style before rs

abbrev pub text_of : Style → List LineReply → List ℕ
text_of style rs = text_after style [] rs

-- ---- the input and output of a session

-- the exit status of a session that ended early: 1 if the input is refused, 3 if reading, writing or memory failed
abbrev pub serve_fault_status : ServeError → ℕ
serve_fault_status ServeError.TooManyLines = 1
serve_fault_status e = 3

-- the input has ended
abbrev pub Ended : (read unread : Option (List ℕ)) → Type 0
Ended read unread = IfSome read (λ _. IsAtEnd unread)

-- the reader gave some lines, which have these answers from the host m on, and then `rest`
pub record Talk (m : Machine) (read unread : Option (List ℕ)) (rest : List ℕ) (rs : List LineReply) : Type 0 where
  pub bytes : List ℕ
  pub host : Machine
  pub taken : Consumes read unread (bytes ++ rest)
  pub answered : AnswersLines (lines_in bytes) m rs host

-- the most lines that a session answers
abbrev pub max_lines : ℕ
max_lines = 2 ^ 64 - 1

-- A session from the host m on. At the end of the input all lines were answered, and the writer has got the text of the
-- answers. If a write failed, the writer has got the beginning of that text. Otherwise it has got the whole text. A last
-- line then has no answer, whether nothing, a part or all of it was taken. A line is answered when its line feed or the
-- end of the input was read. There are too many lines after `max_lines` answers, and then no more is taken.
abbrev pub Serves : Style → Result ⊤ ServeError → Machine → (read unread had has : Option (List ℕ)) → Type 0
Serves style (Ok done) m read unread had has =
    (rs : List LineReply) × Talk m read unread [] rs × Appends had has (text_of style rs) × Ended read unread
Serves style (Err Write) m read unread had has =
    (rs : List LineReply) × (talk : Talk m read unread [] rs) × (WholeLines talk.bytes ⊎ Ended read unread)
    × (n : ℕ) × Appends had has (take n (text_of style rs))
Serves style (Err TooManyLines) m read unread had has =
    (rs : List LineReply) × (length rs ≡ max_lines) × (talk : Talk m read unread [] rs) × WholeLines talk.bytes
    × Appends had has (text_of style rs)
Serves style (Err e) m read unread had has =
    (rs : List LineReply) × (rest : List ℕ) × (length (lines_in rest) ≤ 1) × (talk : Talk m read unread rest rs) × WholeLines talk.bytes
    × Appends had has (text_of style rs)
