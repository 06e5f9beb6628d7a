-- The answer to one line.
use Rattle.std.{proofs.{Common.{◌≡◌, ℕ, List, Option, length}, Math.Seq.take-length}, specs.{Prelude.{⊤, Result, Ok, Err}, Result.IsErrAnd, Io.KnownBytes.Keeps}}
use Rattle.{requests.specs.Machine.Machine, scenario_runs.{specs.declared.style.Style.Style, proofs.WriteLemmas.appends_kept}}
use Rattle.{open_sessions.specs.Calls.{OpenSession, Answers, last_text}, open_sessions.specs.declared.serve_fault.ServeError.{ServeError, TheVariants.{Write, Memory, TooManyLines}}}
use Rattle.open_sessions.specs.{Answers.reply_text, Sessions.{Serves, text_of}, Turns.{Writes, Told}}

-- a line was answered, and its answer written
pub told_by : (style : Style) (result : Result ⊤ ServeError) (line : List ℕ) (s t : OpenSession) (had has : Option (List ℕ)) → Answers line s t → Writes result (last_text style t) had has
    → Told style result line s.host t.host s.made t.made had has
told_by style (Ok done) line s t had has p w = (p.reply, p.answers, p.counts, rw (p.text style) at w)
told_by style (Err Write) line s t had has p w = (p.reply, p.answers, w.0, rw (p.text style) at w.1)
told_by style (Err Memory) line s t had has p w = w
told_by style (Err e) line s t had has p w = absurd w

pub serves_by : (style : Style) (m : Machine) (r u h w : Option (List ℕ)) (result : Result ⊤ ServeError) (e : ServeError) → IsErrAnd result (λ x. x ≡ e) → Serves style (Err e) m r u h w → Serves style result m r u h w
serves_by style m r u h w (Ok done) e is p = absurd is
serves_by style m r u h w (Err x) e is p = rw is p

-- the answer was flushed, or it was not
module _ (style : Style) (text : List ℕ) (m k : Machine) (made after : List ℕ) (had has x : Option (List ℕ)) (told : Told style (Ok tt) text m k made after had has) (kept : Keeps has x) where
  pub told_flushed : Told style (Ok tt) text m k made after had x
  told_flushed = (told.0, told.1, told.2, appends_kept had has x (reply_text style made told.0) told.3 kept)

  pub told_unflushed : Told style (Err Write) text m k made after had x
  told_unflushed = (told.0, told.1, length (reply_text style made told.0), rw take-length (appends_kept had has x (reply_text style made told.0) told.3 kept))

-- the writer was flushed at the end
pub serves_flushed : (style : Style) (result : Result ⊤ ServeError) (m : Machine) (r u had has x : Option (List ℕ)) → Serves style result m r u had has → Keeps has x → Serves style result m r u had x
serves_flushed style (Ok done) m r u had has x p kept = (p.0, p.1, appends_kept had has x (text_of style p.0) p.2 kept, p.3)
serves_flushed style (Err Write) m r u had has x p kept = (p.0, p.1, p.2, p.3, appends_kept had has x _ p.4 kept)
serves_flushed style (Err TooManyLines) m r u had has x p kept = (p.0, p.1, p.2, p.3, appends_kept had has x (text_of style p.0) p.4 kept)
serves_flushed style (Err e) m r u had has x p kept = (p.0, p.1, p.2, p.3, p.4, appends_kept had has x (text_of style p.0) p.5 kept)
