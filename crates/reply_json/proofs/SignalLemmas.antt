-- No signal has a number outside 1 to 31.
use Rattle.reply_json.proofs.CommonNames.{◌≡◌, ◌≢◌, ◌⊎◌, ℕ, ◌<◌, ◌==◌, Bool, true, List, [], ◌∷◌, find, Option, None, refl, ap, arith, ◌&&◌, option_map_or, ne_eqb, leb-true, and_parts, Row, table}
use Rattle.reply_json.proofs.CommonNames.{signal_name, is_signal}

-- each row has a signal's number
abbrev all_signals : List Row → Bool
all_signals [] = true
all_signals (r ∷ rows) = is_signal r.number && all_signals rows

none_outside : (rows : List Row) (n : ℕ) → all_signals rows ≡ true → (n < 1) ⊎ (31 < n) → find (λ r. r.number == n) rows ≡ None
none_outside [] n h out = refl
none_outside (r ∷ rows) n h out =
    let parts = and_parts _ _ h in
    let range = and_parts _ _ parts.0 in
    let low = leb-true 1 r.number range.0 in
    let high = leb-true r.number 31 range.1 in
    let differs : r.number ≢ n = grind (arith, low, high, out) in
    rw (ne_eqb r.number n differs) (none_outside rows n parts.1 out)

pub no_name : (n : ℕ) → (n < 1) ⊎ (31 < n) → signal_name n ≡ []
unfolding table
no_name n out = ap (λ (o : Option Row). option_map_or (λ r. r.name) o []) (none_outside table n refl out)
