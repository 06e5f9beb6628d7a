-- Kills and installed policies keep a host sound.
use Rattle.requests.proofs.CommonNames.{◌≡◌, ℕ, ℤ, Bool, true, false, ◌==◌, ◌&&◌, ◌||◌, not, leb, List, [], ◌∷◌, ◌++◌, length, length-append, zip, Option, Some, None, refl, sym, ◌∙◌, arith}
use Rattle.requests.proofs.CommonNames.{true≢false, nat_tests, subst, eqb-true, eq-eqb, get_or, set, get_or-set_other, length-set, list_all, le-leb, leb-false, IsUser, slot, users, EINVAL, EAGAIN}
use Rattle.requests.proofs.CommonNames.{ProcData, is_live, process_of, Rows, Settings, post, is_live_of, sound_rows, IsSound, and_left, both, choose, found_number, zip_users, post_sound, Rule}
use Rattle.requests.proofs.CommonNames.{refuses, is_which, reach, post_if_live, post_all, reached, kill, install, Installed, Machine, installed_by, after, sound_installed, sound, list_all-from_All}
use Rattle.requests.proofs.CommonNames.{put_at, slots_differ, IsCaller, list_all-append}
use Rattle.requests.proofs.SoundWithoutEnded.{pairs_test, rows_sound, after_sound, slots_of, pairs_of, live_pairs}
use Rattle.requests.proofs.SoundAfterCall.{live_caller}

posted_if_live : (settings : Settings) (sig n : ℕ) (rows : Rows) → IsSound rows → (o : Option ProcData) → process_of n rows.processes ≡ o → IsSound (post_if_live settings sig o rows)
posted_if_live settings sig n rows s None at = s
posted_if_live settings sig n rows s (Some p) at = grind (arith, nat_tests, choose (is_live p && not (sig == 0)) (post settings sig None p.pid rows) rows IsSound (λ e. post_sound rows p.pid p s (subst (λ m. process_of m rows.processes ≡ Some p) (sym (found_number n rows.processes p at)) at) (and_left (is_live p) (not (sig == 0)) e) settings sig None) (λ e. s), post_sound, and_left)

posted_all : (settings : Settings) (sig : ℕ) (ps : List ProcData) (rows : Rows) → IsSound rows → IsSound (post_all settings sig ps rows)
posted_all settings sig [] rows s = s
posted_all settings sig (p ∷ ps) rows s = posted_all settings sig ps (post_if_live settings sig (process_of p.pid rows.processes) rows) (posted_if_live settings sig p.pid rows s (process_of p.pid rows.processes) refl)

reached_sound : (settings : Settings) (sig : ℕ) (ps : List ProcData) (rows : Rows) → IsSound rows → IsSound (reached settings sig ps rows).rows
reached_sound settings sig [] rows s = s
reached_sound settings sig (p ∷ ps) rows s = posted_all settings sig (p ∷ ps) rows s

pub kill_rows : (settings : Settings) (u caller : ℕ) (which : ℤ) (sig : ℕ) (rows : Rows) → IsSound rows → IsSound (kill settings u caller which sig rows).rows
kill_rows settings u caller which sig rows s = choose (not (leb sig 31) || not (is_which which)) (refuses EINVAL rows) _ (λ o. IsSound o.rows) (λ e. s) (λ e. reached_sound settings sig (reach u caller which rows) rows s)

-- Installed policies
module _ (m : Machine) (u : ℕ) (p : ProcData) (policy : List Rule) (user : IsUser u) (is : sound m ≡ true) (c : IsCaller u p m.rows) where
  abbrev pair : Installed
  pair = record { debugger = p.pid; policy = policy }

  abbrev more : List (List Installed)
  more = set m.installed (slot u) (installed_by u m ++ (pair ∷ []))

  room : leb 64 (length (installed_by u m)) ≡ false → (w : ℕ) → IsUser w → pairs_test m.rows (w, get_or more (slot w) []) ≡ true
  room few w its = by_user (w == u) refl
    where
      by_user : (b : Bool) → (w == u) ≡ b → pairs_test m.rows (w, get_or more (slot w) []) ≡ true
      by_user true e =
          let same = eqb-true w u e in
          let here : get_or more (slot u) [] ≡ installed_by u m ++ (pair ∷ []) = put_at u m.installed (installed_by u m ++ (pair ∷ [])) [] user (slots_of m is) in
          let less = leb-false 64 (length (installed_by u m)) few in
          let count = length-append (installed_by u m) (pair ∷ []) in
          let one : length {A = Installed} (pair ∷ []) ≡ 1 = refl in
          let all = list_all-append (λ i. is_live_of m.rows u i.debugger) (installed_by u m) (pair ∷ []) in
          subst (λ v. pairs_test m.rows (v, get_or more (slot v) []) ≡ true) (sym same) (rw here (both (leb (length (installed_by u m ++ (pair ∷ []))) 64) (list_all (λ i. is_live_of m.rows u i.debugger) (installed_by u m ++ (pair ∷ [])))
          (le-leb (length (installed_by u m ++ (pair ∷ []))) 64 (omega (arith, less, count, one)))
          (all ∙ both (list_all (λ i. is_live_of m.rows u i.debugger) (installed_by u m)) (list_all (λ i. is_live_of m.rows u i.debugger) (pair ∷ [])) (list_all-from_All (λ i. is_live_of m.rows u i.debugger) (installed_by u m) (live_pairs m is u user)) (both (is_live_of m.rows u p.pid) true (live_caller u m.rows p c) refl))))
      by_user false e =
          let other = slots_differ u w user its (λ same. true≢false (sym (eq-eqb w u same) ∙ e)) in
          rw (get_or-set_other m.installed (slot u) (slot w) (installed_by u m ++ (pair ∷ [])) [] other) (pairs_of m is w its)

  pub installed_sound : sound (install u p policy m).machine ≡ true
  installed_sound = choose (leb 64 (length (installed_by u m))) (after m (refuses EAGAIN m.rows)) _ (λ a. sound a.machine ≡ true) (λ e. after_sound m (refuses EAGAIN m.rows) is (rows_sound m is))
      (λ few. both (sound_rows m.rows) (sound_installed (record m { installed = more })) (and_left (sound_rows m.rows) (sound_installed m) is)
      (both (length more == 64) (list_all (pairs_test m.rows) (zip users more)) (eq-eqb (length more) 64 (length-set m.installed (slot u) (installed_by u m ++ (pair ∷ [])) ∙ slots_of m is)) (zip_users (pairs_test m.rows) more [] (room few))))
