-- A session, line after line.
use Rattle.std.proofs.{Common.{◌≡◌, ◌≤◌, ◌<◌, ◌+◌, ◌-◌, ℕ, List, [], ◌∷◌, ◌++◌, length, take, Option, refl, sym, ap, ◌∙◌, inl, inr, arith, take_all, ◌⊎◌}, Math.Seq.take-append-add}
use Rattle.std.{proofs.lemmas.{Bool.cases_lt, List.{append_assoc, append-nil, length-append, length-take}}, specs.{Prelude.{Result, Ok, Err, IfOk, IfSome}, Io.KnownBytes.{Appends, Consumes, Keeps, IsAtEnd}}}
use Rattle.byte_lines.{specs.{declared.reading.LineEnd.{LineEnd, TheVariants.{Feed, Input}}, Lines.{lines_in, NoFeed, Loses, end_bytes, WholeLines}}, proofs.LineLemmas.{Whole, whole_start, whole_line, whole_more, feed_last}}
use Rattle.{byte_lines.proofs.{LineLemmas.{lines_last, lines_one}, ReadLemmas.consumes_more}, pid_blocks.specs.Users.IsUser, requests.specs.{Machine.Machine}}
use Rattle.step_types.specs.Plain.{UserStep}
use Rattle.scenario_runs.{proofs.{LineLemmas.{Counted, counted_more, counted_number, counted_few}, WriteLemmas.{appends_more, appends_kept}}, specs.{declared.style.Style.Style, Lines.line}}
use Rattle.{scenario_text.specs.{declared.fault.Fault.Fault, OneStep.{IsStep, too_long, no_value, value, max_step_bytes}}, open_sessions.specs.declared.serve_fault.ServeError.{ServeError, TheVariants.Read}}
use Rattle.open_sessions.specs.{declared.serve_fault.ServeError.TheVariants.{Write, Memory, TooManyLines}, Sessions.{AnswersLines, text_after, text_of, max_lines, Ended, Talk, Serves}, Turns.{kept, FullStep, Told}}
use Rattle.open_sessions.specs.Answers.{LineReply, AnswersLine, step, refused, reply_text, made_after}

-- ---- a line that is longer than a step

step_of_kept : (text : List ℕ) (q : Result UserStep Fault) → max_step_bytes < length text → IsStep (kept text) q → IsStep text q
step_of_kept text q long (too_long h) = too_long long
step_of_kept text q long (no_value short h) = let all = length-take (max_step_bytes + 1) text in absurd (omega arith)
step_of_kept text q long (value d short h) = let all = length-take (max_step_bytes + 1) text in absurd (omega arith)

answers_long : (text : List ℕ) (m : Machine) (r : LineReply) (k : Machine) → max_step_bytes < length text → AnswersLine (kept text) m r k → AnswersLine text m r k
answers_long text m r k long (step a reply after is user did) = step a reply after (step_of_kept text (Ok a) long is) user did
answers_long text m r k long (refused f is) = refused f (step_of_kept text (Err f) long is)

pub answers_kept : (text : List ℕ) (m : Machine) (r : LineReply) (k : Machine) → AnswersLine (kept text) m r k → AnswersLine text m r k
answers_kept text m r k p = elim (cases_lt max_step_bytes (length text)) [
  | inl long ↦ answers_long text m r k long p
  | inr short ↦ rw (take_all (max_step_bytes + 1) text (omega arith)) at p
]

-- ---- one more answer

answers_more : (ls : List (List ℕ)) (l : List ℕ) (m n k : Machine) (rs : List LineReply) (r : LineReply) → AnswersLines ls m rs n → AnswersLine l n r k → AnswersLines (ls ++ (l ∷ [])) m (rs ++ (r ∷ [])) k
answers_more [] l m n k [] r p q = (k, rw p at q, refl)
answers_more (x ∷ ls) l m n k (s ∷ rs) r p q = (p.0, p.1, answers_more ls l p.0 n k rs r p.2 q)
answers_more ls l m n k rs r p q = absurd p

abbrev pub ToUser : LineReply → Type 0
ToUser r = IfOk r (λ a. IsUser a.uid)

to_user : {text : List ℕ} {m : Machine} {r : LineReply} {k : Machine} → AnswersLine text m r k → ToUser r
to_user (step a reply after is user did) = user
to_user (refused f is) = tt

-- the users of the replies so far
abbrev pub users_after : List ℕ → LineReply → List ℕ
users_after before (Ok a) = a.uid ∷ before
users_after before (Err f) = before

users_few : (before : List ℕ) (r : LineReply) → length (users_after before r) ≤ length before + 1
users_few before (Ok a) = omega arith
users_few before (Err f) = omega arith

-- the line of an answer after others, and the text that follows it
text_more : (style : Style) (made before : List ℕ) (r : LineReply) (rs : List LineReply) → Counted made before → ToUser r → text_after style before (r ∷ rs) ≡ reply_text style made r ++ text_after style (users_after before r) rs
text_more style made before (Ok a) rs counted user =
    ap (λ n. (line style (n + 1) a).text ++ text_after style (a.uid ∷ before) rs) (sym (counted_number made before a.uid user.0 user.1 counted))
text_more style made before (Err f) rs counted user = refl

counted_after : (made before : List ℕ) (r : LineReply) → Counted made before → ToUser r → Counted (made_after made r) (users_after before r)
counted_after made before (Ok a) counted user = counted_more made before a.uid user.0 user.1 counted
counted_after made before (Err f) counted user = counted

-- ---- what holds between lines: all lines that were taken have ended, and are answered

pub record Talking (style : Style) (first : Machine) (read unread had has : Option (List ℕ)) (m : Machine) (made : List ℕ) (turns : ℕ) : Type 0 where
  pub bytes : List ℕ
  pub replies : List LineReply
  pub before : List ℕ
  pub whole : Whole bytes
  pub ended : WholeLines bytes
  pub taken : Consumes read unread bytes
  pub answered : AnswersLines (lines_in bytes) first replies m
  pub told : Appends had has (text_of style replies)
  pub next : (rs : List LineReply) → text_of style (replies ++ rs) ≡ text_of style replies ++ text_after style before rs
  pub counted : Counted made before
  pub few : length before ≤ length replies
  pub count : length replies ≡ turns

-- a reader whose bytes were known is at its end
at_end : (r u v : Option (List ℕ)) (bytes : List ℕ) → Consumes r u bytes → IfSome u (λ _. IsAtEnd v) → IfSome r (λ _. IsAtEnd v)
at_end r u v bytes taken over = grind arith

pub start : (style : Style) (first : Machine) (r w : Option (List ℕ)) (m : Machine) (made : List ℕ) → m ≡ first → Counted made [] → Talking style first r r w w m made 0
start style first r w m made is counted = record {
  bytes = [];
  replies = [];
  before = [];
  whole = whole_start;
  ended = λ some. absurd (omega arith);
  taken = grind arith;
  answered = is;
  told = grind (arith, append-nil {A = ℕ});
  next = λ rs. refl;
  counted = counted;
  few = omega arith;
  count = refl;
}

-- the lines, with one that was taken now
only_line : (text : List ℕ) → NoFeed text → 0 < length text → lines_in text ≡ text ∷ []
only_line [] no_feed some = absurd (omega arith)
only_line (x ∷ text) no_feed some = lines_last x text no_feed

lines_with : (bytes text : List ℕ) (end : LineEnd) → Whole bytes → NoFeed text → (end ≡ Input → 0 < length text)
    → lines_in (bytes ++ (text ++ end_bytes end)) ≡ lines_in bytes ++ (text ∷ [])
lines_with bytes text Feed whole no_feed some = whole_line bytes text whole no_feed
lines_with bytes text Input whole no_feed some =
    whole (text ++ []) ∙ ap (λ ls. lines_in bytes ++ ls) (ap lines_in (append-nil text) ∙ only_line text no_feed (some refl))

module _ (style : Style) (first : Machine) (r u h w : Option (List ℕ)) (m : Machine) (made : List ℕ) (turns : ℕ) (at : Talking style first r u h w m made turns) (v : Option (List ℕ)) where
  -- a line or a part of one was taken, and nothing was written
  stops : (x : Option (List ℕ)) (rest : List ℕ) → length (lines_in rest) ≤ 1 → Consumes u v rest → Keeps w x
      → (rs : List LineReply) × (rest : List ℕ) × (length (lines_in rest) ≤ 1) × (talk : Talk first r v rest rs) × WholeLines talk.bytes × Appends h x (text_of style rs)
  stops x rest few lost kept = (
    at.replies,
    rest,
    few,
    record { bytes = at.bytes; host = m; taken = consumes_more r u v at.bytes rest at.taken lost; answered = at.answered },
    at.ended,
    appends_kept h w x (text_of style at.replies) at.told kept,
  )

  module _ (text : List ℕ) (end : LineEnd) (lost : Loses u v text (end_bytes end)) where
    -- a line was taken, and has this answer
    line_answered : (k : Machine) (reply : LineReply) → (end ≡ Input → 0 < length text) → AnswersLine (kept text) m reply k → Talk first r v [] (at.replies ++ (reply ∷ []))
    line_answered k reply some is = record {
      bytes = at.bytes ++ (text ++ end_bytes end);
      host = k;
      taken = rw append-nil (consumes_more r u v at.bytes (text ++ end_bytes end) at.taken lost.1);
      answered = rw (lines_with at.bytes text end at.whole lost.0 some) (answers_more (lines_in at.bytes) text first m k at.replies reply at.answered (answers_kept text m reply k is));
    }

    text_answered : (reply : LineReply) → ToUser reply → text_of style (at.replies ++ (reply ∷ [])) ≡ text_of style at.replies ++ reply_text style made reply
    text_answered reply user =
        at.next (reply ∷ []) ∙ ap (λ t. text_of style at.replies ++ t) (text_more style made at.before reply [] at.counted user ∙ append-nil (reply_text style made reply))

    -- the last line was answered
    pub ends_last : (k : Machine) (after : List ℕ) (x : Option (List ℕ)) → (end ≡ Input → 0 < length text) → Told style (Ok tt) (kept text) m k made after w x
        → IfSome u (λ _. IsAtEnd v) → Serves style (Ok tt) first r v h x
    ends_last k after x some told over = (
      at.replies ++ (told.0 ∷ []),
      line_answered k told.0 some told.1,
      rw (text_answered told.0 (to_user told.1)) (appends_more h w x (text_of style at.replies) (reply_text style made told.0) at.told told.3),
      at_end r u v at.bytes at.taken over,
    )

    -- the line has its line feed, or the input has ended
    line_ended : (e : LineEnd) → (e ≡ Input → IfSome u (λ _. IsAtEnd v)) → WholeLines (at.bytes ++ (text ++ end_bytes e)) ⊎ Ended r v
    line_ended Feed over = inl (feed_last at.bytes text)
    line_ended Input over = inr (at_end r u v at.bytes at.taken (over refl))

    -- no user has had the most answers that are counted after so few lines
    not_full : turns < max_lines → FullStep (kept text) made → ⊥
    not_full small full = let few = counted_few made at.before at.counted (full.0.uid - 1001) in let all = at.few in let count = at.count in grind (arith, full.2, few, all, count, small)

    -- a line was taken, and its answer was not written
    pub fails : (k : Machine) (after : List ℕ) (x : Option (List ℕ)) (e : ServeError) → turns < max_lines → (end ≡ Input → 0 < length text) → (end ≡ Input → IfSome u (λ _. IsAtEnd v))
        → Told style (Err e) (kept text) m k made after w x → Serves style (Err e) first r v h x
    unfolding line_answered
    fails k after x TooManyLines small some over told = absurd (not_full small told.0)
    fails k after x Write small some over told =
        let one = reply_text style made told.0 in (
          at.replies ++ (told.0 ∷ []),
          line_answered k told.0 some told.1,
          line_ended end over,
          length (text_of style at.replies) + told.2,
          rw (text_answered told.0 (to_user told.1), take-append-add (text_of style at.replies) one told.2) (appends_more h w x (text_of style at.replies) (take told.2 one) at.told told.3),
        )
    fails k after x Memory small some over told = stops x (text ++ end_bytes end) (lines_one text end lost.0) lost.1 told
    fails k after x e small some over told = absurd told

  -- the next line could not be read
  pub cannot_read : (e : ServeError) → (e ≡ Read) ⊎ (e ≡ Memory) → (text : List ℕ) → Loses u v text [] → Serves style (Err e) first r v h w
  cannot_read e kind text lost =
      let few = lines_one text Input lost.0 in
      let left = stops w (text ++ []) few lost.1 (grind arith) in
      elim kind [ inl is ↦ rw is left | inr is ↦ rw is left ]

  -- the input has ended
  pub ends_now : Consumes u v [] → IfSome u (λ _. IsAtEnd v) → Serves style (Ok tt) first r v h w
  ends_now lost over = (
    at.replies,
    record { bytes = at.bytes; host = m; taken = consumes_more r u v at.bytes [] at.taken lost; answered = at.answered },
    at.told,
    at_end r u v at.bytes at.taken over,
  )

  -- the line was answered, and there may be more
  pub goes_on : (text : List ℕ) → Loses u v text (end_bytes Feed) → (k : Machine) (after : List ℕ) (x : Option (List ℕ)) → Told style (Ok tt) (kept text) m k made after w x
      → Talking style first r v h x k after (turns + 1)
  goes_on text lost k after x told =
      let reply = told.0 in
      let user = to_user told.1 in
      let text_is = text_answered text Feed lost reply user in
      record {
        bytes = at.bytes ++ (text ++ (10 ∷ []));
        replies = at.replies ++ (reply ∷ []);
        before = users_after at.before reply;
        whole = whole_more at.bytes text at.whole lost.0;
        ended = feed_last at.bytes text;
        taken = consumes_more r u v at.bytes (text ++ (10 ∷ [])) at.taken lost.1;
        answered = rw (whole_line at.bytes text at.whole lost.0) (answers_more (lines_in at.bytes) text first m k at.replies reply at.answered (answers_kept text m reply k told.1));
        told = rw text_is (appends_more h w x (text_of style at.replies) (reply_text style made reply) at.told told.3);
        next = λ rs.
            ap (text_of style) (append_assoc at.replies (reply ∷ []) rs) ∙ at.next (reply ∷ rs)
            ∙ ap (λ t. text_of style at.replies ++ t) (text_more style made at.before reply rs at.counted user)
            ∙ sym (append_assoc (text_of style at.replies) (reply_text style made reply) (text_after style (users_after at.before reply) rs))
            ∙ ap (λ t. t ++ text_after style (users_after at.before reply) rs) (sym text_is);
        counted = rw told.2 (counted_after made at.before reply at.counted user);
        few = let before = users_few at.before reply in let all = at.few in grind (arith, length-append at.replies (reply ∷ []), before, all);
        count = let count = at.count in grind (arith, length-append at.replies (reply ∷ []), count);
      }

  -- no more lines are answered
  pub too_many : turns ≡ max_lines → Serves style (Err TooManyLines) first r u h w
  too_many all = (
    at.replies,
    at.count ∙ all,
    record { bytes = at.bytes; host = m; taken = rw append-nil at.taken; answered = at.answered },
    at.ended,
    at.told,
  )

-- a line that does not end with the input
pub lost_feed : (u v : Option (List ℕ)) (text : List ℕ) (end : LineEnd) → (end ≡ Input → ⊥) → Loses u v text (end_bytes end) → Loses u v text (end_bytes Feed)
lost_feed u v text end not lost = grind (arith, not)
