-- Two texts that begin with some equal lines.
use Rattle.std.proofs.{Common.{◌≡◌, ◌≢◌, ◌≤◌, ℕ, ◌+◌, ◌-◌, Bool, true, false, not, suc, zero, List, [], ◌∷◌, ◌++◌, length, take, drop, refl, ap, sym, ◌∙◌, arith}, Math.Seq.take-add}
use Rattle.{std.{proofs.lemmas.{List.{drop-drop, length-append}, Slice.Eq.bytes_eq-Decides}, specs.{Prelude.{slice_get, option_map}, Str.bytes_eq}}, byte_lines.specs.FedLines.{lines_in, line_there}}
use Rattle.byte_lines.specs.{Differences.IsFirstDifference, declared.comparing.Difference.Difference}

-- the lines before are the same, and then the texts continue with these
pub record Agrees (expected got expected_rest got_rest : List ℕ) (line : ℕ) : Type 0 where
  pub before : ℕ
  pub number : line ≡ before + 1
  pub room : before + length expected_rest ≤ length expected
  pub same : take before (lines_in expected) ≡ take before (lines_in got)
  pub expected_lines : drop before (lines_in expected) ≡ lines_in expected_rest
  pub got_lines : drop before (lines_in got) ≡ lines_in got_rest
  pub whole : expected_rest ≡ got_rest → expected ≡ got

slice_get-drop : (n : ℕ) (lines : List (List ℕ)) → slice_get lines n ≡ slice_get (drop n lines) 0
slice_get-drop zero lines = refl
slice_get-drop (suc n) [] = refl
slice_get-drop (suc n) (line ∷ lines) = slice_get-drop n lines

take_one : (xs ys : List (List ℕ)) → slice_get xs 0 ≡ slice_get ys 0 → take 1 xs ≡ take 1 ys
take_one xs ys e = grind arith

line_there-injective : (xs ys : List ℕ) → line_there xs ≡ line_there ys → xs ≡ ys
line_there-injective xs ys e = grind arith

-- a text's first line, and what follows it
pub record Splits (text line behind : List ℕ) : Type 0 where
  pub text_is : line ++ behind ≡ text
  pub first : slice_get (lines_in text) 0 ≡ line_there line
  pub others : drop 1 (lines_in text) ≡ lines_in behind

there : (text rest : List ℕ) (n : ℕ) (line behind : List ℕ) → drop n (lines_in text) ≡ lines_in rest → Splits rest line behind → slice_get (lines_in text) n ≡ line_there line
there text rest n line behind e s = grind (arith, slice_get-drop, s.first)

lines_on : (text rest : List ℕ) (n : ℕ) (line behind : List ℕ) → drop n (lines_in text) ≡ lines_in rest → Splits rest line behind → drop (n + 1) (lines_in text) ≡ lines_in behind
lines_on text rest n line behind e s = sym (drop-drop 1 n (lines_in text)) ∙ ap (drop 1) e ∙ s.others

-- one more line is the same
pub agrees_more : (expected got e g : List ℕ) (n : ℕ) (line e' g' : List ℕ) → Agrees expected got e g n → Splits e line e' → Splits g line g' → length e' ≤ length e - 1 → length g' ≤ length g - 1 → 1 ≤ length e + length g → Agrees expected got e' g' (n + 1)
agrees_more expected got e g n line e' g' a s t shorter short some =
    let ones = take_one (lines_in e) (lines_in g) (s.first ∙ sym t.first) in
    record {
      before = a.before + 1;
      number = omega (arith, a.number);
      room = let room = a.room in omega (arith, ap length s.text_is, ap length t.text_is, length-append line e', length-append line g');
      same = grind (arith, take-add, ones);
      expected_lines = lines_on expected e a.before line e' a.expected_lines s;
      got_lines = lines_on got g a.before line g' a.got_lines t;
      whole = grind (arith, a.whole, s.text_is, t.text_is);
    }

-- the next lines are not
pub differs_here : (expected got e g : List ℕ) (d : Difference) (line other e' g' : List ℕ) → Agrees expected got e g d.line → Splits e line e' → Splits g other g'
    → option_map (λ l. l.now) d.expected ≡ line_there line → option_map (λ l. l.now) d.got ≡ line_there other → line ≢ other → IsFirstDifference (lines_in expected) (lines_in got) d
differs_here expected got e g d line other e' g' a s t p q apart =
    let left = there expected e a.before line e' a.expected_lines s in
    let right = there got g a.before other g' a.got_lines t in
    record {
      before = a.before;
      number = a.number;
      same = a.same;
      expected_there = cc;
      got_there = cc;
      differ = λ same. apart (line_there-injective line other (cc));
    }

-- texts with a difference are not the same
pub differ_apart : (expected got : List ℕ) (d : Difference) → IsFirstDifference (lines_in expected) (lines_in got) d → expected ≢ got
differ_apart expected got d is same = is.differ (ap (λ text. slice_get (lines_in text) is.before) same)

-- what the test for other lines says
pub ne_apart : (xs ys : List ℕ) (r : Bool) → r ≡ not (bytes_eq xs ys) → r ≡ true → xs ≢ ys
ne_apart xs ys r is other = grind (arith, bytes_eq-Decides)

pub ne_same : (xs ys : List ℕ) (r : Bool) → r ≡ not (bytes_eq xs ys) → r ≡ false → xs ≡ ys
ne_same xs ys r is alike = grind (arith, bytes_eq-Decides)
