use Rattle.std.proofs.Common.{rules, arith, ◌==◌, ◌++◌, [], List, ℕ, false, get_or, ap, sym, refl, Bor}
use Rattle.std.specs.Int.RustNames.{bit_and}
use Rattle.std.proofs.lemmas.Bool.Decides.{nat_tests}
use Rattle.std.proofs.lemmas.Grind.{put_two}
use Rattle.event_masks.specs.Names.{joined, hex_words}
use Rattle.event_masks.proofs.Joins.{separator, passed_over, one_written, flag_names}
use Rattle.event_masks.proofs.printing.FlagsDisplay.fmt.Goals as goal

abbrev no_flag : Bor (List ℕ) × ℕ
no_flag = (record { ref_ptr = (0, 0); now = [] }, 0)

pub loop-name-init : goal.loop-name-init
loop-name-init g c = record {
  done = [];
  whole = ap (λ ws. joined c.args.self.now.none.now c.args.self.now.between.now (ws ++ hex_words c.args.self.now.further)) (flag_names c.args.self.now.bits c.args.self.now.names.now);
  written = λ p. search rules;
}

pub loop-name-preserved-then-bits-bit : goal.loop-name-preserved-then-bits-bit
loop-name-preserved-then-bits-bit g c =
    let l = c.loop-name in
    record {
      done = l.invariant.done;
      whole = passed_over _ _ _ (λ n. bit_and c.args.self.now.bits n.1 == n.1) (λ n. n.0.now) c.args.self.now.names.now _ l.name-index no_flag _ _ c.loop-name-test.true (grind (arith, nat_tests)) l.invariant.whole;
      written = l.invariant.written;
    }

pub loop-name-preserved-then-empty : goal.loop-name-preserved-then-empty
loop-name-preserved-then-empty g c =
    let ns = c.args.self.now.names.now in
    let between = c.args.self.now.between.now in
    let l = c.loop-name in
    let done = l.invariant.done in
    let name = (get_or ns l.name-index no_flag).0.now in
    record {
      done = done ++ (separator between l.empty ++ name);
      whole = one_written _ _ _ false (λ n. bit_and c.args.self.now.bits n.1 == n.1) (λ n. n.0.now) ns _ l.name-index no_flag done _ c.loop-name-test.true (grind (arith, nat_tests)) l.invariant.whole refl;
      written = λ p. put_two _ _ _ _ done name _ (l.invariant.written p) (search rules) (ap (λ b. done ++ (separator between b ++ name)) (sym c.if-empty.true));
    }

pub loop-name-preserved : goal.loop-name-preserved
loop-name-preserved g c =
    let ns = c.args.self.now.names.now in
    let between = c.args.self.now.between.now in
    let l = c.loop-name in
    let done = l.invariant.done in
    let name = (get_or ns l.name-index no_flag).0.now in
    record {
      done = done ++ (separator between l.empty ++ name);
      whole = one_written _ _ _ l.empty (λ n. bit_and c.args.self.now.bits n.1 == n.1) (λ n. n.0.now) ns _ l.name-index no_flag done _ c.loop-name-test.true (grind (arith, nat_tests)) l.invariant.whole c.if-empty.false;
      written = λ p. put_two _ _ _ _ done (between ++ name) _ (l.invariant.written p) (search rules) (ap (λ b. done ++ (separator between b ++ name)) (sym c.if-empty.false));
    }
