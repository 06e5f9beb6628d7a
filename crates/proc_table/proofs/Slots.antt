-- What a change of one slot does to what each number finds.
use Rattle.proc_table.proofs.CommonNames.{◌≡◌, ◌≢◌, ℕ, ◌+◌, ◌-◌, ◌<◌, ◌≤◌, false, List, [], Option, Some, None, IsSome, is_some, refl, sym, ap, ◌∙◌, nat_eq, cond, arith, inl, inr, length, get_or, set}
use Rattle.proc_table.proofs.CommonNames.{replicate, map, subst, filter, not, count_by, list_any, lookup, nat_tests, same_Some, get_or-replicate, IsUser, slot, ProcData}
use Rattle.proc_table.proofs.CommonNames.{process_of, placed, InOwnBlock, Rise, put_process, all_rows, look, IsStored, IsSlotted}
use Rattle.proc_table.proofs.Every.{some_of}
use Rattle.proc_table.proofs.Rows.{same_number, found_row}
use Rattle.proc_table.proofs.Rising.{Lacks-from_any}
use Rattle.proc_table.proofs.Finds.{equal_or_not}
use Rattle.proc_table.proofs.Listing.{IsFound, Rise-all_rows, in_own_blocks-all_rows, find-all_rows, all_rows-added, all_rows-set, all_rows-removed, all_rows-none}
use Rattle.proc_table.proofs.Counts.{of, count-placed, count-set, count-without, count-below, tally-set}

-- numbers that lead to slots, and slots with rows
module _ (slots : ℕ → Option ProcData) (es : List (ℕ × ℕ)) where
  -- the row that a number finds is in the slot to which it leads
  pub look-is : (pid : ℕ) (row : ProcData) → look slots es pid ≡ Some row → (s : ℕ) × (lookup (nat_eq pid) es ≡ Some s) × (slots s ≡ Some row) × (row.pid ≡ pid)
  look-is pid row is =
      let at = some_of (lookup (nat_eq pid) es) (grind (arith, nat_tests)) in
      (at.0, at.1, grind (arith, nat_tests, at.1), grind (arith, nat_tests))

module _ (slots : ℕ → Option ProcData) (es : List (ℕ × ℕ)) (stored : IsStored slots es) where
  pub look-own : (s : ℕ) (row : ProcData) → slots s ≡ Some row → look slots es row.pid ≡ Some row
  look-own s row is = grind (arith, nat_tests, stored.listed s row is)

  pub found : IsFound (look slots es)
  found = record {
    named = λ pid row is. (look-is slots es pid row is).3;
    home = λ pid row is. let at = look-is slots es pid row is in stored.home at.0 row at.2;
  }

  -- one slot has another row with this number, which leads to it, or none any more
  module _ (slots' : ℕ → Option ProcData) (es' : List (ℕ × ℕ)) (at : ℕ) (others : (s : ℕ) → s ≢ at → slots' s ≡ slots s) (n : ℕ) (change : (pid : ℕ) → lookup (nat_eq pid) es' ≡ cond (nat_eq n pid) (Some at) (lookup (nat_eq pid) es))
      (was : (row : ProcData) → slots at ≡ Some row → row.pid ≡ n) (now : (row : ProcData) → slots' at ≡ Some row → (row.pid ≡ n) × InOwnBlock row) (only : (s : ℕ) (row : ProcData) → s ≢ at → slots s ≡ Some row → row.pid ≢ n) where
    leads : lookup (nat_eq n) es' ≡ Some at
    leads = grind (arith, nat_tests, change n)

    look-here : look slots' es' n ≡ slots' at
    look-here = by (slots' at) refl
      where
        by : (o : Option ProcData) → slots' at ≡ o → look slots' es' n ≡ slots' at
        by None is = grind (arith, nat_tests, leads)
        by (Some row) is = grind (arith, nat_tests, leads, now row)

    look-there : (pid : ℕ) → pid ≢ n → look slots' es' pid ≡ look slots es pid
    look-there pid off = by (lookup (nat_eq pid) es) refl
      where
        by : (o : Option ℕ) → lookup (nat_eq pid) es ≡ o → look slots' es' pid ≡ look slots es pid
        by None is = grind (arith, nat_tests, change pid)
        by (Some s) is =
            let same : lookup (nat_eq pid) es' ≡ Some s = grind (arith, nat_tests, change pid) in
            elim (equal_or_not s at) [
              | inl here ↦ none slots' es' s same (rw here.1 (λ row its. (now row its).0)) ∙ sym (none slots es s is (rw here.1 was))
              | inr away ↦ grind (arith, nat_tests, others s away.1)
            ]
          where
            none : (f : ℕ → Option ProcData) (ns : List (ℕ × ℕ)) (s : ℕ) → lookup (nat_eq pid) ns ≡ Some s → ((row : ProcData) → f s ≡ Some row → row.pid ≡ n) → look f ns pid ≡ None
            none f ns s to its = not_its (f s) refl
              where
                not_its : (o : Option ProcData) → f s ≡ o → look f ns pid ≡ None
                not_its None is = grind (arith, nat_tests)
                not_its (Some row) is = grind (arith, nat_tests, its row)

    pub look-changed : (pid : ℕ) → look slots' es' pid ≡ cond (nat_eq pid n) (slots' at) (look slots es pid)
    look-changed pid = elim (equal_or_not pid n) [
      | inl here ↦ rw (here.0, here.1) look-here
      | inr off ↦ rw off.0 (look-there pid off.1)
    ]

    pub IsStored-changed : IsStored slots' es'
    IsStored-changed = record {
      listed = λ s row is. elim (equal_or_not s at) [
        | inl here ↦ grind (arith, nat_tests, change row.pid, here.1, now row)
        | inr away ↦ grind (arith, nat_tests, change row.pid, others s away.1, only s row away.1, stored.listed s row)
      ];
      home = λ s row is. elim (equal_or_not s at) [
        | inl here ↦ (now row (ap slots' (sym here.1) ∙ is)).1
        | inr away ↦ stored.home s row (sym (others s away.1) ∙ is)
      ];
    }

-- what is kept after each change, and the rows that there are then
module _ (slots : ℕ → Option ProcData) (es : List (ℕ × ℕ)) (counts : List ℕ) (kept : IsSlotted slots es counts) where
  pub finds : IsFound (look slots es)
  finds = found slots es kept.stored

  pub rising : Rise (all_rows (look slots es))
  rising = Rise-all_rows _ finds

  pub tally-below : (u : ℕ) → IsUser u → get_or counts (slot u) 0 ≤ 1000
  tally-below u user = omega (arith, kept.tally u user, count-below u (all_rows (look slots es)) user rising (in_own_blocks-all_rows _ finds))

  -- a number whose row is in the list leads to its slot
  pub row_there : (pid : ℕ) (row : ProcData) → process_of pid (all_rows (look slots es)) ≡ Some row → (s : ℕ) × (lookup (nat_eq pid) es ≡ Some s) × (slots s ≡ Some row) × (row.pid ≡ pid)
  row_there pid row there = look-is slots es pid row (sym (find-all_rows _ finds pid) ∙ there)

  pub slot_there : (pid : ℕ) → IsSome (process_of pid (all_rows (look slots es))) → IsSome (lookup (nat_eq pid) es)
  slot_there pid there = let row = some_of _ there in ap is_some (row_there pid row.0 row.1).1

  -- and the row of a slot is in the list
  pub row_listed : (s : ℕ) (row : ProcData) → slots s ≡ Some row → process_of row.pid (all_rows (look slots es)) ≡ Some row
  row_listed s row is = find-all_rows _ finds row.pid ∙ look-own slots es kept.stored s row is

  module _ (slots' : ℕ → Option ProcData) (es' : List (ℕ × ℕ)) (at : ℕ) (others : (k : ℕ) → k ≢ at → slots' k ≡ slots k) where
    pub IsSlotted-added : (new : ProcData) → slots at ≡ None → slots' at ≡ Some new → ((pid : ℕ) → lookup (nat_eq pid) es' ≡ cond (nat_eq new.pid pid) (Some at) (lookup (nat_eq pid) es))
        → list_any (λ p. nat_eq p.pid new.pid) (all_rows (look slots es)) ≡ false → InOwnBlock new → length counts ≡ 64
        → IsSlotted slots' es' (set counts (slot new.uid) (get_or counts (slot new.uid) 0 + 1)) × (all_rows (look slots' es') ≡ placed new (all_rows (look slots es)))
    IsSlotted-added new vacant has change fresh home long =
        let was : (row : ProcData) → slots at ≡ Some row → row.pid ≡ new.pid = λ row is. absurd (cc (is, vacant)) in
        let now : (row : ProcData) → slots' at ≡ Some row → (row.pid ≡ new.pid) × InOwnBlock row = λ row is. let same = same_Some new row (sym has ∙ is) in (ap (λ (p : ProcData). p.pid) (sym same), subst InOwnBlock same home) in
        let only : (s : ℕ) (row : ProcData) → s ≢ at → slots s ≡ Some row → row.pid ≢ new.pid = λ s row off is same. grind (arith, nat_tests, row_listed s row is, found_row new.pid, same) in
        let stored = IsStored-changed slots es kept.stored slots' es' at others new.pid change was now only in
        let what : (pid : ℕ) → look slots' es' pid ≡ cond (nat_eq pid new.pid) (Some new) (look slots es pid) = rw has at (look-changed slots es kept.stored slots' es' at others new.pid change was now only) in
        let rows = all_rows-added _ _ finds (found slots' es' stored) new fresh what in
        let count = λ (u : ℕ). count-placed u new _ rising (Lacks-from_any new.pid _ fresh) in (
          record {
            stored = stored;
            tally = tally-set counts (all_rows (look slots es)) (all_rows (look slots' es')) new.uid _ long home.user
                (rw (rows, count new.uid, same_number new.uid) (omega (arith, kept.tally new.uid home.user)))
                (λ u apart. let other : nat_eq new.uid u ≡ false = grind (arith, nat_tests, apart) in rw (rows, count u, other) (omega arith))
                kept.tally;
          },
          rows,
        )

    -- only a slot's own number leads to its row
    module _ (before : ProcData) (has : slots at ≡ Some before) where
      leads_on : (pid : ℕ) → lookup (nat_eq pid) es ≡ cond (nat_eq before.pid pid) (Some at) (lookup (nat_eq pid) es)
      leads_on pid = grind (arith, nat_tests, kept.stored.listed at before has)

      own : (row : ProcData) → slots at ≡ Some row → row.pid ≡ before.pid
      own row is = grind (arith, nat_tests, same_Some)

      apart : (s : ℕ) (row : ProcData) → s ≢ at → slots s ≡ Some row → row.pid ≢ before.pid
      apart s row off is same = grind (arith, nat_tests, kept.stored.listed at before has, kept.stored.listed s row is)

      pub IsSlotted-set : (new : ProcData) → slots' at ≡ Some new → before.pid ≡ new.pid → before.uid ≡ new.uid → IsSlotted slots' es counts × (all_rows (look slots' es) ≡ map (put_process new) (all_rows (look slots es)))
      IsSlotted-set new has' number uids =
          let home = kept.stored.home at before has in
          let at_home : InOwnBlock new = record { user = rw uids at home.user; block = rw (uids, number) at home.block } in
          let now : (row : ProcData) → slots' at ≡ Some row → (row.pid ≡ before.pid) × InOwnBlock row = λ row is. let same = same_Some new row (sym has' ∙ is) in (ap (λ (p : ProcData). p.pid) (sym same) ∙ sym number, subst InOwnBlock same at_home) in
          let stored = IsStored-changed slots es kept.stored slots' es at others before.pid leads_on own now apart in
          let what : (pid : ℕ) → look slots' es pid ≡ cond (nat_eq pid new.pid) (Some new) (look slots es pid) = rw (number, has') at (look-changed slots es kept.stored slots' es at others before.pid leads_on own now apart) in
          let its : look slots es new.pid ≡ Some before = subst (λ n. look slots es n ≡ Some before) number (look-own slots es kept.stored at before has) in
          let rows = all_rows-set _ _ finds (found slots' es stored) new (ap is_some its) what in
          (record { stored = stored; tally = λ u user. rw rows (kept.tally u user ∙ sym (count-set u new before (all_rows (look slots es)) rising (find-all_rows _ finds new.pid ∙ its) uids)) }, rows)

      pub IsSlotted-removed : slots' at ≡ None → length counts ≡ 64
          → IsUser before.uid × (0 < get_or counts (slot before.uid) 0) × IsSlotted slots' es (set counts (slot before.uid) (get_or counts (slot before.uid) 0 - 1)) × (all_rows (look slots' es) ≡ filter (λ p. not (nat_eq p.pid before.pid)) (all_rows (look slots es)))
      IsSlotted-removed gone long =
          let now : (row : ProcData) → slots' at ≡ Some row → (row.pid ≡ before.pid) × InOwnBlock row = λ row is. absurd (cc (is, gone)) in
          let stored = IsStored-changed slots es kept.stored slots' es at others before.pid leads_on own now apart in
          let what : (pid : ℕ) → look slots' es pid ≡ cond (nat_eq pid before.pid) None (look slots es pid) = rw gone at (look-changed slots es kept.stored slots' es at others before.pid leads_on own now apart) in
          let rows = all_rows-removed _ _ finds (found slots' es stored) before.pid what in
          let user = (kept.stored.home at before has).user in
          let less = λ (u : ℕ). count-without u before.pid before (all_rows (look slots es)) rising (row_listed at before has) in (
            user,
            grind (arith, nat_tests, less before.uid, kept.tally before.uid user),
            record {
              stored = stored;
              tally = tally-set counts (all_rows (look slots es)) (all_rows (look slots' es)) before.uid _ long user (rw rows (grind (arith, nat_tests, less before.uid, kept.tally before.uid user)))
                  (λ u apart. grind (arith, nat_tests, rows, less u)) kept.tally;
            },
            rows,
          )

-- a number that no row has leaves the index
module _ (slots : ℕ → Option ProcData) (es es' : List (ℕ × ℕ)) (counts : List ℕ) (kept : IsSlotted slots es counts) (n : ℕ) (dropped : (pid : ℕ) → nat_eq n pid ≡ false → lookup (nat_eq pid) es' ≡ lookup (nat_eq pid) es)
    (none : (s : ℕ) (row : ProcData) → slots s ≡ Some row → row.pid ≢ n) where
  look-dropped : (pid : ℕ) → look slots es' pid ≡ look slots es pid
  look-dropped pid = elim (equal_or_not pid n) [
    | inl here ↦ nothing es' (look slots es' pid) refl here.1 ∙ sym (nothing es (look slots es pid) refl here.1)
    | inr off ↦ grind (arith, nat_tests, dropped pid, off)
  ]
    where
      nothing : (ns : List (ℕ × ℕ)) (o : Option ProcData) → look slots ns pid ≡ o → pid ≡ n → o ≡ None
      nothing ns None is here = refl
      nothing ns (Some row) is here = let at = look-is slots ns pid row is in absurd (none at.0 row at.2 (at.3 ∙ here))

  pub all_rows-dropped : all_rows (look slots es') ≡ all_rows (look slots es)
  all_rows-dropped = ap all_rows (λ i pid. look-dropped pid i)

  pub IsSlotted-dropped : IsSlotted slots es' counts
  IsSlotted-dropped = record {
    stored = record {
      listed = λ s row is. grind (arith, nat_tests, none s row is, kept.stored.listed s row is, dropped row.pid);
      home = kept.stored.home;
    };
    tally = rw all_rows-dropped kept.tally;
  }

-- no slot
pub IsSlotted-none : (slots : ℕ → Option ProcData) (es : List (ℕ × ℕ)) → ((s : ℕ) → slots s ≡ None) → IsSlotted slots es (replicate 64 0) × (all_rows (look slots es) ≡ [])
IsSlotted-none slots es vacant =
    let rows = all_rows-none (look slots es) (λ pid. grind (arith, nat_tests, vacant)) in (
      record {
        stored = record { listed = λ s row is. absurd (cc (is, vacant s)); home = λ s row is. absurd (cc (is, vacant s)) };
        tally = λ u user. get_or-replicate 64 (slot u) 0 0 (omega (arith, user.0, user.1)) ∙ sym (ap (count_by (of u)) rows);
      },
      rows,
    )

-- what a number finds
pub ruleset find_laws = (find-all_rows, finds)
