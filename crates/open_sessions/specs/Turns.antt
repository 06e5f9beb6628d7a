-- One line of a session: its reading and its answer.
use Rattle.std.specs.{Prelude.{⊤, ◌≡◌, ℕ, ◌+◌, ◌-◌, ◌^◌, List, Option, Result, Ok, Err, slice_index, take}, Io.KnownBytes.{Appends, Keeps}}
use Rattle.{requests.specs.Machine.Machine, step_types.specs.Plain.UserStep, scenario_text.specs.OneStep.{IsStep, max_step_bytes}, scenario_runs.specs.declared.style.Style.Style}
use Rattle.{open_sessions.specs.Answers.{LineReply, AnswersLine, reply_text, made_after}, open_sessions.specs.declared.serve_fault.ServeError.{ServeError, TheVariants.{Write, Memory, TooManyLines}}}

-- the part of a line that is kept: if the line is longer, neither it nor the part is a step
abbrev pub kept : List ℕ → List ℕ
kept text = take (max_step_bytes + 1) text

-- a text was written; if the write failed, the writer has the beginning of it, and if memory ran out, nothing
abbrev pub Writes : Result ⊤ ServeError → List ℕ → (had has : Option (List ℕ)) → Type 0
Writes (Ok done) text had has = Appends had has text
Writes (Err Write) text had has = (n : ℕ) × Appends had has (take n text)
Writes (Err Memory) text had has = Keeps had has
Writes (Err e) text had has = ⊥

-- the line is a step of a user who has had the most answers that are counted
abbrev pub FullStep : List ℕ → (made : List ℕ) → Type 0
FullStep text made = (a : UserStep) × IsStep text (Ok a) × (slice_index made (a.uid - 1001) + 1 ≡ 2 ^ 64)

-- a line was answered, by a host that is m before and k after; if the write failed, the writer has the beginning of the
-- answer, and after another error nothing; no reader fails here
abbrev pub Told : Style → Result ⊤ ServeError → List ℕ → (m k : Machine) → (made after : List ℕ) → (had has : Option (List ℕ)) → Type 0
Told style (Ok done) text m k made after had has =
    (r : LineReply) × AnswersLine text m r k × (after ≡ made_after made r) × Appends had has (reply_text style made r)
Told style (Err Write) text m k made after had has =
    (r : LineReply) × AnswersLine text m r k × (n : ℕ) × Appends had has (take n (reply_text style made r))
Told style (Err TooManyLines) text m k made after had has = FullStep text made × Keeps had has
Told style (Err Memory) text m k made after had has = Keeps had has
Told style (Err e) text m k made after had has = ⊥
