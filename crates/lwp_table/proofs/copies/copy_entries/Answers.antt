use Rattle.lwp_table.proofs.CommonNames.{◌≡◌, ◌∙◌, ◌++◌, ◌∷◌, [], ap, arith, length, nat_eq}
use Rattle.std.proofs.Common.{take, ◌+◌}
use Rattle.indexmap.specs.IndexMap.{insert_entry}
use Rattle.lwp_table.proofs.CopyLemmas.{entry-put, entry-added, length-added}
use Rattle.lwp_table.proofs.copies.copy_entries.Goals as goal
use Rattle.lwp_table.proofs.copies.copy_entries.Goals.{then-not-put_at+in_ok-insert, else-not-put_at}

pub loop-number-preserved : goal.loop-number-preserved
loop-number-preserved g c =
    let all = c.args.source.now.entries in
    let now = c.loop-number.index.entries in
    let at = c.loop-number.at in
    let k = c.in-Some.number.now in
    let v = c.in-Some.value.now in
    let new = c.if-not-put_at.index.entries in
    let rest = c.next.new.self in
    let invariant = c.loop-number.invariant in
    let next = c.in-Some.ensures.steps in
    let one = ap length next in
    elim c.if-not-put_at.branch [
      | then-not-put_at+in_ok-insert w ↦
          let cut = w.truncate-then-not-put_at.ensures.entries ∙ ap (λ es. take at es) (c.put_at.ensures.unchanged w.if-not-put_at.true) in
          let inserted : new ≡ insert_entry nat_eq (take at now) k v = ap (λ m. m.entries) w.index-is ∙ w.in_ok-insert.ensures.entries ∙ ap (λ es. insert_entry nat_eq es k v) cut in
          let long = length-added k v rest all now at _ invariant.whole next c.iter-number-items.ensures.unique invariant.within new inserted in
          record {
            can_next = tt;
            is_finite = tt;
            whole = entry-added k v rest all now at _ invariant.whole next c.iter-number-items.ensures.unique invariant.within new inserted;
            place = omega (arith, one, invariant.place);
            within = omega (arith, long);
            short = omega (arith, long);
          }
      | else-not-put_at w ↦
          let same = ap (λ m. m.entries) w.index-is in
          let put : take (at + 1) new ≡ take at now ++ (k, v) ∷ [] = ap (λ es. take (at + 1) es) same ∙ c.put_at.ensures.put w.if-not-put_at.false in
          let long = ap length same ∙ c.put_at.ensures.len in
          record {
            can_next = tt;
            is_finite = tt;
            whole = entry-put k v rest all now at _ invariant.whole next new put;
            place = omega (arith, one, invariant.place);
            within = omega (arith, long, c.put_at.ensures.within w.if-not-put_at.false);
            short = omega (arith, long, one, invariant.short);
          }
    ]
