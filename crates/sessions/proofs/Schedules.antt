-- What two runs of scripts give a user.
use Rattle.std.proofs.Common.{◌≡◌, ℕ, ◌<◌, Bool, true, false, ◌==◌, if◌then◌else◌, List, [], ◌∷◌, length, map, filter, Some, Vec, Global, vec_len, slice_get, slice_index_or, sym, refl, ap, ap₂, ◌∙◌, subst, arith, All, eq-eqb}
use Rattle.sessions.proofs.CommonNames.{AllByRecursion, nat_tests, recursion_from_All, PlainStep, Machine, is_memory, UserStep, replies, last, View, view, with_view, alone}
use Rattle.sessions.proofs.CommonNames.{users_are_apart_in_a_sound_host, Entry, asked, entries_of, IsBelow, Transcript, made, Plays, AllPlay, entries_by, plain_script, whole}
use Rattle.std.proofs.lemmas.Option.{slice_get-get_or, get_or_from_slice_get, slice_get_within}
use Rattle.step_types.specs.declared.Reply.{Reply}
use Rattle.visibility.proofs.ForeignLists.{alike_alone}
use Rattle.sessions.specs.declared.script.Script.{Script}
use Rattle.sessions.specs.Schedules.{IsOnlyScript, IsAnswered, EverySchedule, AlikeJournals}

-- The steps of one user's entries

asked_mine : (u : ℕ) (log : List Entry) → AllByRecursion (λ (a : UserStep). a.uid ≡ u) (asked (entries_by u log))
asked_mine u [] = tt
asked_mine u (e ∷ es) = grind (arith, nat_tests, asked_mine u es)

pub alike_journals : AlikeJournals
alike_journals m n log journal u user is own theirs same alike =
    let a = own u user in
    let b = theirs u user in
    let xs = asked (entries_by u log) in
    let ys = asked (entries_by u journal) in
    let both = alike_alone u xs ys user (asked_mine u log) (asked_mine u journal) m (users_are_apart_in_a_sound_host m is) alike in (
      a.0 ∙ both.0 ∙ ap (λ (v : View). replies ys (with_view u v)) same ∙ sym b.0,
      a.1 ∙ both.1 ∙ ap (λ (v : View). view u (last ys (with_view u v))) same ∙ sym b.1,
    )

-- The entries of a user with one script

-- two tests that agree on all elements keep the same ones
same_kept : {A : Type 0} (p q : A → Bool) (xs : List A) → AllByRecursion (λ x. p x ≡ q x) xs → filter p xs ≡ filter q xs
same_kept p q [] e = refl
same_kept p q (x ∷ xs) e = ap₂ (λ b rest. if b then x ∷ rest else rest) e.0 (same_kept p q xs e.1)

-- the entries that pass a test are what P says, so each that passes is
where_kept : {A : Type 0} (t : A → Bool) (P : A → Type 0) (xs : List A) → AllByRecursion P (filter t xs) → AllByRecursion (λ x. t x ≡ true → P x) xs
where_kept t P [] e = tt
where_kept t P (x ∷ xs) e = (λ is. grind (arith, is, e), where_kept t P xs (grind (arith, e)))

pub made_by : (u n : ℕ) (ss : List PlainStep) (rs : List Reply) → AllByRecursion (λ (e : Entry). e.uid ≡ u) (made u n ss rs)
made_by u n [] rs = tt
made_by u n (s ∷ ss) [] = tt
made_by u n (s ∷ ss) (r ∷ rs) = grind (arith, made_by u n ss rs)

-- the entries of answered steps have the steps and the replies
pub made_all : (u n : ℕ) (ss : List PlainStep) (rs : List Reply) → length rs ≡ length ss → AllByRecursion (λ r. is_memory r ≡ false) rs
    → (asked (made u n ss rs) ≡ map (λ (s : PlainStep). record { uid = u; step = s }) ss) × (map (λ (e : Entry). e.reply) (made u n ss rs) ≡ rs)
made_all u n [] [] len none = (refl, refl)
made_all u n [] (r ∷ rs) len none = absurd (omega arith)
made_all u n (s ∷ ss) [] len none = absurd (omega arith)
made_all u n (s ∷ ss) (r ∷ rs) len none =
    let rest = made_all u n ss rs (omega arith) none.1 in
    rw none.0 (ap (λ (xs : List UserStep). record { uid = u; step = s } ∷ xs) rest.0, ap (λ (qs : List Reply). r ∷ qs) rest.1)

same_tests : (u i : ℕ) (e : Entry) → (e.uid ≡ u → e.session ≡ i) → (e.session ≡ i → e.uid ≡ u) → (e.uid == u) ≡ (e.session == i)
same_tests u i e there back = grind (arith, nat_tests, there, back)

module _ {F : Type 0} (scripts : List (Script F)) (log : List Entry) (ts : List (Transcript (Vec Reply Global))) (plays : AllPlay plain_script whole log scripts ts) (u i : ℕ) (s : Script F) (t : Transcript (Vec Reply Global)) (only : IsOnlyScript u scripts i s) where
  -- each entry is of its script's user
  of_script : (k : ℕ) → k < length scripts → AllByRecursion (λ (e : Entry). (e.session == k) ≡ true → e.uid ≡ (slice_index_or scripts k s).uid) log
  of_script k lt =
      let p = plays.1 k s t lt in
      let z = slice_index_or scripts k s in
      where_kept (λ (e : Entry). e.session == k) (λ (e : Entry). e.uid ≡ z.uid) log
      (subst (AllByRecursion (λ (e : Entry). e.uid ≡ z.uid)) (sym p.2) (made_by z.uid k z.steps.items (slice_index_or ts k t).replies.items))

  by_user : (es : List Entry) → AllByRecursion (λ (e : Entry). e.session < length scripts) es
      → ((k : ℕ) → k < length scripts → AllByRecursion (λ (e : Entry). (e.session == k) ≡ true → e.uid ≡ (slice_index_or scripts k s).uid) es)
      → AllByRecursion (λ (e : Entry). (e.uid == u) ≡ (e.session == i)) es
  by_user [] below of = tt
  by_user (e ∷ es) below of =
      let mine : e.uid ≡ (slice_index_or scripts e.session s).uid = (of e.session below.0).0 (eq-eqb e.session e.session refl) in
      let at : slice_get scripts e.session ≡ Some (slice_index_or scripts e.session s) = slice_get-get_or scripts e.session s below.0 in (
        same_tests u i e
            (λ is. only.2 e.session (slice_index_or scripts e.session s) at (sym mine ∙ is))
            (λ is. mine ∙ ap (λ (k : ℕ). (slice_index_or scripts k s).uid) is ∙ ap (λ (z : Script F). z.uid) (get_or_from_slice_get scripts i s s only.0) ∙ only.1),
        by_user es below.1 (λ k lt. (of k lt).1),
      )

  -- the user's entries are those of the answered script
  pub entries_are : AllByRecursion (λ (e : Entry). e.session < length scripts) log → slice_get ts i ≡ Some t → IsAnswered t
      → (asked (entries_by u log) ≡ map (λ (x : PlainStep). record { uid = u; step = x }) s.steps.items) × (map (λ (e : Entry). e.reply) (entries_by u log) ≡ t.replies.items)
  entries_are below at answered =
      let lt : i < length scripts = slice_get_within scripts i s only.0 in
      let p : Plays plain_script whole log i s t = subst (λ (x : Script F). Plays plain_script whole log i x t) (get_or_from_slice_get scripts i s s only.0) (subst (λ (x : Transcript (Vec Reply Global)). Plays plain_script whole log i (slice_index_or scripts i s) x) (get_or_from_slice_get ts i t t at) (plays.1 i s t lt)) in
      let same : entries_by u log ≡ entries_of i log = same_kept (λ (e : Entry). e.uid == u) (λ (e : Entry). e.session == i) log (by_user log below of_script) in
      let is : entries_by u log ≡ made u i s.steps.items t.replies.items = same ∙ p.2 ∙ ap (λ (x : ℕ). made x i s.steps.items t.replies.items) only.1 in
      let all = made_all u i s.steps.items t.replies.items p.1 answered in
      (ap asked is ∙ all.0, ap (map (λ (e : Entry). e.reply)) is ∙ all.1)

pub every_schedule : (F : Type 0) → EverySchedule F
every_schedule F m n scripts others k l log journal ts ws a b u i j s z t w user same only_s only_z steps at_t at_w done_t done_w =
    let mine = entries_are scripts.items log ts a.transcripts u i s t only_s (below scripts log a.entries) at_t done_t in
    let theirs = entries_are others.items journal ws b.transcripts u j z w only_z (below others journal b.entries) at_w done_w in
    let asks : asked (entries_by u log) ≡ asked (entries_by u journal) = mine.0 ∙ ap (map (λ (x : PlainStep). record { uid = u; step = x })) steps ∙ sym theirs.0 in
    let first = a.own u user in
    let second = b.own u user in
    let from : alone u m ≡ alone u n = ap (with_view u) same in (
      sym mine.1 ∙ first.0 ∙ ap₂ replies asks from ∙ sym second.0 ∙ theirs.1,
      ap (view u) a.host ∙ first.1 ∙ ap₂ (λ (xs : List UserStep) (h : Machine). view u (last xs h)) asks from ∙ sym second.1 ∙ sym (ap (view u) b.host),
    )
  where
    below : (ss : Vec (Script F) Global) (es : List Entry) → All (IsBelow (vec_len ss)) es → AllByRecursion (λ (e : Entry). e.session < length ss.items) es
    below ss es all = subst (λ (x : ℕ). AllByRecursion (IsBelow x) es) ss.ok.0 (recursion_from_All (IsBelow (vec_len ss)) es all)
