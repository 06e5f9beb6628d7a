use Rattle.scenario_runs.proofs.CommonNames.{◌≡◌, ℕ, ◌+◌, ◌-◌, ◌≤◌, List, [], ◌∷◌, Option, Some, get_or, ap, length, length-append, sym, ◌∙◌, subst, arith, nat_tests}
use Rattle.std.proofs.Common.{decimal, nat_eq, true}
use Rattle.std.specs.Prelude.{IsUtf8}
use Rattle.std.proofs.lemmas.Str.{lead_after_ascii}
use Rattle.std.specs.Option.{IfSome, option_eq}
use Rattle.scenario_runs.specs.Lines.{Begins}
use Rattle.scenario_runs.proofs.Beginnings.{kept_is, space_before}
use Rattle.scenario_runs.proofs.lines.Words.begin.Goals as goal

equal : (o : Option ℕ) (n : ℕ) → option_eq nat_eq o (Some n) ≡ true → o ≡ Some n
equal o n h = grind (arith, nat_tests)

begun : (o : Option ℕ) (u : ℕ) (bytes : List ℕ) (kept : ℕ) → o ≡ Some u → IfSome o (λ user. Begins bytes kept user) → Begins bytes kept u
begun o u bytes kept is b = subst (λ x. IfSome x (λ user. Begins bytes kept user)) is b

pub truncate-requires : goal.truncate-requires
truncate-requires c =
    let a = c.self.inside in
    let bs = a.line.bytes in
    let b = begun a.user c.args.uid bs a.kept (equal a.user c.args.uid (sym c.eq.ensures ∙ c.if-eq.true)) c.self.invariant in
    let utf8 = subst IsUtf8 c.as_str.ensures.value c.as_str.utf8 in (
      omega arith,
      λ within. (
        within,
        λ some below high.
            let next : a.kept - 1 + 1 ≡ a.kept = omega (arith, some) in
            subst (λ k. 192 ≤ get_or bs k 0) next (lead_after_ascii bs (a.kept - 1) utf8 (omega (arith, space_before bs a.kept c.args.uid b)) (omega (arith, below, next)) (subst (λ k. 128 ≤ get_or bs k 0) (sym next) high)),
      ),
    )

pub invariant_of-self : goal.invariant_of-self
invariant_of-self c =
    let a = c.self.inside in
    let is = equal a.user c.args.uid (sym c.eq.ensures ∙ c.if-eq.true) in
    let b = begun a.user c.args.uid a.line.bytes a.kept is c.self.invariant in
    let alone : Begins c.truncate.new.self.bytes a.kept c.args.uid = record { rest = []; is = c.truncate.ensures ∙ kept_is a.line.bytes a.kept c.args.uid b; size = b.size; few = b.few } in
    subst (λ x. IfSome x (λ user. Begins c.truncate.new.self.bytes a.kept user)) (sym is) alone

pub returns-then-eq-clause-words : goal.returns-then-eq-clause-words
returns-then-eq-clause-words c =
    let a = c.self.inside in
    let b = begun a.user c.args.uid a.line.bytes a.kept (equal a.user c.args.uid (sym c.eq.ensures ∙ c.if-eq.true)) c.self.invariant in
    c.truncate.ensures ∙ kept_is a.line.bytes a.kept c.args.uid b

pub returns-then-eq-clause-few : goal.returns-then-eq-clause-few
returns-then-eq-clause-few c =
    let a = c.self.inside in
    let b = begun a.user c.args.uid a.line.bytes a.kept (equal a.user c.args.uid (sym c.eq.ensures ∙ c.if-eq.true)) c.self.invariant in
    omega (arith, b.few, b.size, ap length (c.truncate.ensures ∙ kept_is a.line.bytes a.kept c.args.uid b), length-append (decimal c.args.uid) (32 ∷ []))
