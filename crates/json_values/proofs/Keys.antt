-- Which keys an object has, once a member is put into it, and which keys are among others.
use Rattle.json_values.proofs.CommonNames.{nat_tests, ◌≡◌, ℕ, List, ◌&&◌, Ordering, Less, Equal, Greater, nat_cmp, refl, arith, list_any, Data, Members, no_members, member, put, members_among}
use Rattle.json_values.proofs.CommonNames.{is_eq-slice_cmp, bytes_eq-Decides, slice_cmp, match_ordering, bytes_eq}

put_at : (o : Ordering) (keys : List (List ℕ)) (k l : List ℕ) (d e : Data) (ms : Members) → slice_cmp nat_cmp k l ≡ o
    → members_among keys (put k d ms) ≡ (list_any (bytes_eq k) keys && members_among keys ms)
    → members_among keys (match_ordering o (member k d (member l e ms)) (member l d ms) (member l e (put k d ms))) ≡ (list_any (bytes_eq k) keys && members_among keys (member l e ms))
put_at Less keys k l d e ms is later = grind (arith, nat_tests)
put_at Equal keys k l d e ms is later = grind (arith, nat_tests, bytes_eq-Decides k l, is_eq-slice_cmp k l)
put_at Greater keys k l d e ms is later = grind (arith, nat_tests)

-- a member that is put in adds its key
pub members_among-put : (keys : List (List ℕ)) (k : List ℕ) (d : Data) (ms : Members) → members_among keys (put k d ms) ≡ (list_any (bytes_eq k) keys && members_among keys ms)
members_among-put keys k d no_members = refl
members_among-put keys k d (member l e ms) = put_at _ keys k l d e ms refl (members_among-put keys k d ms)
