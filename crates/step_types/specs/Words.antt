-- The words of a reply.
use Rattle.std.specs.Prelude.{◌∷◌, ◌++◌, ℕ, List, [], map, codes, decimal, Option, Some, None}
use Rattle.pid_blocks.specs.Blocks.{errno_name, errno_number}
use Rattle.signals.specs.Sets.{set_text}
use Rattle.event_masks.specs.{Names.event_table, Names.flag_text, Names.stop_table, declared.StopFlags.StopFlags}
use Rattle.stop_handlers.specs.declared.{Decision.Decision, StopView.StopView}
use Rattle.step_types.specs.{Events.event_name, Status.word, declared.LwpInfo.LwpInfo, declared.Reply.Reply}

-- the index of a handler among its debugger's
abbrev pub index_text : Option ℕ → List ℕ
index_text None = codes "none"
index_text (Some i) = decimal i

abbrev pub decision_words : Decision → List (List ℕ)
decision_words Decision.Decline = codes "decline" ∷ []
decision_words Decision.Leave = codes "leave" ∷ []
decision_words (Decision.Continue s) = codes "continue" ∷ decimal s ∷ []
decision_words (Decision.Detach s) = codes "detach" ∷ decimal s ∷ []
decision_words Decision.Kill = codes "kill" ∷ []

abbrev pub flags_word : StopFlags → List ℕ
flags_word f = codes "flags=" ++ flag_text stop_table f.0

-- a stop as a handler sees it
abbrev pub view_words : StopView → List (List ℕ)
view_words view =
    decimal view.tid ∷ (codes "signal=" ++ decimal view.sig) ∷ flags_word view.flags
    ∷ (codes "child=" ++ decimal view.child) ∷ (codes "code=" ++ decimal view.code) ∷ []

-- the parts of an LWP's information after its flags
abbrev pub rest_words : LwpInfo → List (List ℕ)
rest_words i =
    (codes "mask=" ++ set_text i.sigmask) ∷ (codes "pending=" ++ set_text i.siglist)
    ∷ (codes "child=" ++ decimal i.child) ∷ (codes "code=" ++ decimal i.code) ∷ []

abbrev pub reply_words : Reply → List (List ℕ)
reply_words Reply.Done = codes "ok" ∷ []
reply_words (Reply.New pid tid) = codes "new" ∷ decimal pid ∷ decimal tid ∷ []
reply_words (Reply.Number n) = codes "number" ∷ decimal n ∷ []
reply_words (Reply.Status pid status) = codes "status" ∷ decimal pid ∷ decimal (word status) ∷ []
reply_words Reply.Nothing = codes "nothing" ∷ []
reply_words (Reply.Info i) =
    codes "info" ∷ decimal i.tid ∷ event_name i.event ∷ flags_word i.flags ∷ rest_words i
reply_words (Reply.Lwps tids) = codes "lwps" ∷ map (λ n. decimal n) tids
reply_words (Reply.Pids pids) = codes "pids" ∷ map (λ n. decimal n) pids
reply_words (Reply.Mask mask) = codes "mask" ∷ flag_text event_table mask.0 ∷ []
reply_words (Reply.Handled pid status view index decision) =
    codes "handled" ∷ decimal pid ∷ decimal (word status) ∷ codes "at"
    ∷ (view_words view ++ (codes "by" ∷ index_text index ∷ decision_words decision))
reply_words (Reply.Stopped tid sig flags) = codes "stopped" ∷ decimal tid ∷ decimal sig ∷ flags_word flags ∷ []
reply_words (Reply.Caught sig) = codes "caught" ∷ decimal sig ∷ []
reply_words (Reply.Ended status) = codes "ended" ∷ decimal status ∷ []
reply_words Reply.Held = codes "held" ∷ []
reply_words (Reply.Errno e) = codes "error" ∷ errno_name e ∷ decimal (errno_number e) ∷ []
