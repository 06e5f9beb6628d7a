-- A journal that is one entry longer.
use Rattle.host_lock.proofs.CommonNames.{◌≡◌, ℕ, true, false, eqb, List, [], ◌∷◌, ◌++◌, sym, refl, ap, ◌∙◌, append_assoc, append-nil, filter-append, map-append, Machine, Reply, host_after, reply_of, Users, Entry, asked, replay}
use Rattle.host_lock.proofs.CommonNames.{IsLegal, entries_of, StartsWith}
use Rattle.requests.specs.Run.{replies, last}
use Rattle.step_types.specs.Plain.{UserStep}
use Rattle.pid_blocks.specs.Users.{IsUser}

last_more : (m : Machine) (xs : List UserStep) (x : UserStep) → last (xs ++ x ∷ []) m ≡ host_after x.uid x.step (last xs m)
last_more m [] x = refl
last_more m (y ∷ ys) x = last_more (host_after y.uid y.step m) ys x

replies_more : (m : Machine) (xs : List UserStep) (x : UserStep) → replies (xs ++ x ∷ []) m ≡ replies xs m ++ reply_of x.uid x.step (last xs m) ∷ []
replies_more m [] x = refl
replies_more m (y ∷ ys) x = ap (λ (l : List Reply). reply_of y.uid y.step m ∷ l) (replies_more (host_after y.uid y.step m) ys x)

abbrev asked_one : Entry → UserStep
asked_one e = record { uid = e.uid; step = e.step }

asked_more : (log : List Entry) (e : Entry) → asked (log ++ e ∷ []) ≡ asked log ++ asked_one e ∷ []
asked_more log e = map-append asked_one log (e ∷ [])

pub replay_more : (m : Machine) (log : List Entry) (e : Entry) → replay m (log ++ e ∷ []) ≡ host_after e.uid e.step (replay m log)
replay_more m log e = ap (λ (l : List UserStep). last l m) (asked_more log e) ∙ last_more m (asked log) (asked_one e)

pub legal_more : (m : Machine) (log : List Entry) (e : Entry) → IsLegal m log → e.reply ≡ reply_of e.uid e.step (replay m log) → IsLegal m (log ++ e ∷ [])
legal_more m log e legal is = record { replies_given = simp (map-append (λ (x : Entry). x.reply) log (e ∷ []), legal.replies_given, is, asked_more, replies_more) }

-- the entry is this session's
pub entries_mine : (n : ℕ) (log : List Entry) (e : Entry) → eqb e.session n ≡ true → entries_of n (log ++ e ∷ []) ≡ entries_of n log ++ e ∷ []
entries_mine n log e is = filter-append (λ (x : Entry). eqb x.session n) log (e ∷ []) ∙ rw is refl

-- the entry is another session's
pub entries_other : (n : ℕ) (log : List Entry) (e : Entry) → eqb e.session n ≡ false → entries_of n (log ++ e ∷ []) ≡ entries_of n log
entries_other n log e is = filter-append (λ (x : Entry). eqb x.session n) log (e ∷ []) ∙ rw is (append-nil (entries_of n log))

pub starts_longer : (log xs : List Entry) (e : Entry) → StartsWith log xs → StartsWith (log ++ e ∷ []) xs
starts_longer log xs e s = (s.0 ++ e ∷ [], ap (λ l. l ++ e ∷ []) s.1 ∙ append_assoc xs s.0 (e ∷ []))

-- a step was made, and its entry added
pub made : (m now after : Machine) (log longer : List Entry) (e : Entry) → IsLegal m log → now ≡ replay m log → e.reply ≡ reply_of e.uid e.step now → after ≡ host_after e.uid e.step now → longer ≡ log ++ e ∷ []
    → IsLegal m longer × (after ≡ replay m longer)
made m now after log longer e legal is reply then more =
    rw more (legal_more m log e legal (reply ∙ ap (reply_of e.uid e.step) is), then ∙ ap (host_after e.uid e.step) is ∙ sym (replay_more m log e))

pub users_more : (log : List Entry) (e : Entry) → Users (asked log) → IsUser e.uid → Users (asked (log ++ e ∷ []))
users_more [] e all user = (user, tt)
users_more (x ∷ xs) e all user = (all.0, users_more xs e all.1 user)
