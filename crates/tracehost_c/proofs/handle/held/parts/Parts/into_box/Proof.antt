-- `into_box` hands what the parts own to `from_raw`.
use Rattle.tracehost_c.proofs.AsBox.{◌$◌, refl, sym, subst, List, [], ◌∷◌, ◌++◌, Val, has_ty, id⊢, ftrue, fsep, WpFn, Item, ‵, raw, ◌⊛◌, ◌∵◌, !, qed, move, drop, use1, join, split, fsplit, fjoin}
use Rattle.tracehost_c.proofs.AsBox.{feq_i, suffices, done, no_more, and_then, returns, enter, alloc_all, pass_all, free_all, look_at, get, sets, tables, nothing, triple_of, says, Stays, stay_dropped}
use Rattle.tracehost_c.proofs.AsBox.{walk_of, ends_at, D, B, word, box_typed, box_out, box_in, fact, whole, sub, stop, fld, of_opd, get_in, ◌≡◌, ap, inst_fn, flft, ◌⊑◌, some, later, split3, pick}
use Rattle.tracehost_c.proofs.AsBox.{rewrite, await, no, block_ptr, plain, heard, only, Triple, Goes-blank, Bx, R, P, T, Body, place, copy, assign, rv_opd, seq, return, vptr, WT, at_ret, first}
use Rattle.tracehost_c.proofs.AsBox.{blocks, exec, lands_last, env, calls_at_last, args, box_ty, proved_at, regoal, prop, framed}
use Rattle.tracehost_c.proofs.handle.held.parts.Parts.into_box.Statement.{statement}
use Rattle.tracehost_c.specs.contracts.handle.held.parts.Parts as parts
use Rattle.std_alloc.specs.contracts.boxed.Box.from_raw as Fr
use Rattle.std_alloc.proofs.boxed.Box.from_raw.Symbol as raw_sym
use Rattle.std_alloc.proofs.boxed.Box.from_raw.Met as raw_met
use Rattle.tracehost_c.specs.contracts.handle.held.parts.Parts.into_box as F
use Rattle.tracehost_c.proofs.handle.held.parts.Parts.into_box.Code as code

abbrev rest : Body
rest = seq (assign (place 0 []) (rv_opd (copy (place 4 [])))) return

pub into_box_spec : {M : Type 1} → statement M
into_box_spec 𝓤 𝓛 𝓜 𝓡 wired V Z LX LZ g d dd allocator md =
    let E : Bx = record { row = V; laws = LX; al = record { row = Z; laws = LZ; g = g; d = d; drops = dd } } in
    let S = F.ended V Z g d dd in let c = F.clauses V Z g d dd 𝓛 𝓜.mem 𝓡.returns in let 𝓣 = tables 𝓤 𝓛.H 𝓜 𝓡 𝓡.env in
    let fn = inst_fn (args E) code.function in
    let stayed : Stays S.signature.params S.kept = (stay_dropped _ no, tt) in
    let Shuts = triple_of 𝓛 (Fr.signature V Z g d dd) (Fr.spec V Z g d dd 𝓛 𝓜.mem 𝓡.returns) in
    let kn : Triple 𝓤 (𝓣.C (raw_sym.name (args E))) Shuts = raw_met.met 𝓤 𝓛 𝓜 𝓡 (code.calls-std_alloc::boxed::Box::from_raw 𝓡.env wired) V Z LX LZ g d dd allocator md in
    proved_at 𝓛 S stayed c 𝓜 𝓡 (Goes-blank 𝓛 2 (plain (λ _. parts.the_row (R E) (P E) g)) no (λ κs x f. tt), tt) (F.Key.name (args E)) fn (code.unfolded 𝓤 𝓛.H 𝓜 𝓡 wired (V, (Z, tt)) d dd) (λ z are.
    let κs = z.0.0 in let qs = z.0.1 in let a = z.0.3.0.alloc in let x = z.0.3.0.value in let Post = (walk_of 𝓛 S stayed c).post z in
    let v : D E = record { ptr = z.0.3.0.ptr; alloc = a; value = x } in
    let ts : Item 𝓤 = ‵ (flft κs.0 qs.0) ⊛ ‵ (flft κs.1.0 qs.1.0) ⊛ ‵ ftrue in
    let in_x : Item 𝓤 = raw (fact 𝓤 (κs.0 ⊑ V.lives)) in let in_a : Item 𝓤 = raw (fact 𝓤 (κs.1.0 ⊑ Z.lives)) in
    qed 𝓛 ((ts ⊛ ‵ (fsep ((B E).own_val v z.0.4.0) ftrue)) ∷ (in_x ⊛ in_a ⊛ ‵ ftrue) ∷ []) ∵ split ! $ move ! (1 ∷ []) $ fsplit ! $
    box_out E ! v z.0.4.0 (λ b o hv e ws fa. fjoin ! $
    let y : Shuts.Ghost = ((κs, qs, tt, (a, (block_ptr b o, tt)), (hv ∷ [], (vptr b o ∷ [], tt))), x) in
    regoal ! (λ us. prop (WpFn 𝓤 𝓛.H 𝓣.C 𝓣.Λ fn (us ++ []) Post)) ws refl $
    enter ! 𝓣.C 𝓣.Λ fn (word E hv b o ∷ []) _ $ alloc_all ! (λ ls. pass_all ! refl (box_typed E hv b o fa, tt) $
    sets ! (of_opd ! (get_in ! (fld ! refl (stop !)) (sub ! 0 refl (whole !)))) refl (tt, tt) $ sets ! (of_opd ! (get_in ! (fld ! refl (stop !)) (sub ! 1 refl (whole !)))) refl fa $
    first ! $ blocks ! $ sets ! (of_opd ! (get ! refl)) refl fa $
    move ! (4 ∷ []) $ split3 ! $ move ! (2 ∷ []) $ drop ! $ move ! (1 ∷ 2 ∷ []) $ join ! $ move ! (1 ∷ 0 ∷ []) $ join ! $
    -- [what it requires; the handle; true; the tokens]
    move ! (2 ∷ []) $ feq_i ! (List Val) (vptr b o ∷ []) (vptr b o ∷ []) refl $ fjoin ! $ move ! (2 ∷ 0 ∷ []) $ fjoin ! $ move ! (2 ∷ 0 ∷ []) $ join ! $ join ! $ use1 𝓛 (raw (Shuts.pre y)) (id⊢ 𝓤 _) $
    calls_at_last ! (framed 𝓤 𝓛.H 𝓜 𝓣) Shuts kn y (and_then ! (get ! refl) (and_then ! (get ! refl) (no_more !))) (λ u.
    use1 𝓛 (later (some (λ (r : D E). (ts ⊛ ‵ ((B E).own_val r (u ∷ []))) ⊛ some (λ (_ : Unit {0} × (Unit {0} × Unit {0})). ‵ (fsep ftrue (fsep ftrue ftrue)) ⊛ (raw (fact 𝓤 (r.value ≡ x)) ⊛ raw (fact 𝓤 (r.alloc ≡ a))))))) (id⊢ 𝓤 _) $
    await ! tt $ pick ! (λ r. split ! $ move ! (1 ∷ []) $ pick ! (λ _. split3 ! $ drop ! $ heard ! (r.value ≡ x) (λ same. drop ! $ split ! $ move ! (1 ∷ []) $
    box_out E ! r (u ∷ []) (λ b' o' hw e' wu fw. box_in E ! r b' o' r.value e' refl $ rewrite ! 0 (λ (us : List Val). ‵ ((B E).own_val r us)) (sym wu) refl $
    let typed : T (has_ty (box_ty E) u) × WT u = subst (λ (s : Val). T (has_ty (box_ty E) s) × WT s) (sym (ap only wu)) (box_typed E hw b' o' fw) in
    lands_last ! refl typed $ exec ! 𝓣.C 𝓣.Λ (env fn.locals ls) rest (at_ret (env fn.locals ls) Post) $
    sets ! (of_opd ! (get ! refl)) refl typed $ returns ! (look_at ! 0 refl) $ free_all ! refl $
    suffices ! _ (ends_at 𝓛 S stayed c z u r ((tt, (tt, tt)), tt) (tt, tt)) $ says ! same $
    nothing ! $ nothing ! $ fjoin ! $ join ! $ move ! (1 ∷ 0 ∷ []) $ join ! $ done !))))))))
