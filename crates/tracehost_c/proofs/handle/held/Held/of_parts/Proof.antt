-- `of_parts` moves two fields, and what they own goes with them.
use Rattle.tracehost_c.proofs.AsBox.{◌$◌, refl, [], ◌∷◌, ◌++◌, emp, id⊢, ftrue, fsep, WpFn, ‵, raw, ◌⊛◌, ◌∵◌, !, qed, move, drop, use1, join, split, fsplit, fjoin, suffices, done, agg, no_more}
use Rattle.tracehost_c.proofs.AsBox.{and_then, returns, enter, alloc_all, pass_all, free_all, look_at, get, sets, tables, yes, type_at, nothing, says, Stays, stay_dropped, walk_of, ends_at}
use Rattle.tracehost_c.proofs.AsBox.{Goes-dropped, Some, D, B, word, box_typed, box_out, box_in, whole, sub, stop, fld, of_opd, get_in, plain, proved_at, regoal, prop, E}
use Rattle.tracehost_c.proofs.handle.held.Held.of_parts.Statement.{statement}
use Rattle.tracehost_c.specs.contracts.handle.held.parts.Parts as parts
use Rattle.tracehost_c.specs.contracts.handle.held.Held.of_parts as F
use Rattle.tracehost_c.proofs.handle.held.Held.of_parts.Code as code

pub of_parts_spec : {M : Type 1} → statement M
of_parts_spec 𝓤 𝓛 𝓜 𝓡 wired =
    let c = F.clauses 𝓛 𝓜.mem 𝓡.returns in let 𝓣 = tables 𝓤 𝓛.H 𝓜 𝓡 𝓡.env in
    let stayed : Stays F.ended.signature.params F.ended.kept = (stay_dropped _ yes, tt) in
    proved_at 𝓛 F.ended stayed c 𝓜 𝓡 (Goes-dropped 𝓛 0 (plain (λ _. parts.the_row E.row E.al.row E.al.g)) yes (λ κs x f. refl), tt) F.Key.name code.function (code.unfolded 𝓤 𝓛.H 𝓜 𝓡 wired) (λ z are.
    let Post = (walk_of 𝓛 F.ended stayed c).post z in
    let v : D E = record { ptr = z.0.3.0.ptr; alloc = z.0.3.0.alloc; value = z.0.3.0.value } in
    let To = type_at F.signature.result tt in
    let made : To.Denot = record { ptr = v.ptr; alloc = v.alloc; session = Some v.value } in
    qed 𝓛 ((‵ ftrue ⊛ ‵ (fsep ((B E).own_val v z.0.4.0) ftrue)) ∷ raw (emp 𝓤) ∷ []) ∵ split ! $ drop ! $ fsplit ! $
    box_out E ! v z.0.4.0 (λ b o hv e ws fa. box_in E ! v b o v.value e refl $ use1 𝓛 (‵ (To.own_val made (word E hv b o ∷ []))) (id⊢ 𝓤 _) $ move ! (1 ∷ 2 ∷ []) $ drop ! $ drop ! $
    regoal ! (λ us. prop (WpFn 𝓤 𝓛.H 𝓣.C 𝓣.Λ code.function (us ++ []) Post)) ws refl $
    enter ! _ _ _ _ _ $ alloc_all ! (λ ls. pass_all ! refl (box_typed E hv b o fa, tt) $
    sets ! (of_opd ! (get_in ! (fld ! refl (stop !)) (sub ! 0 refl (whole !)))) refl (tt, tt) $ sets ! (of_opd ! (get_in ! (fld ! refl (stop !)) (sub ! 1 refl (whole !)))) refl fa $
    sets ! (of_opd ! (get ! refl)) refl (tt, tt) $ sets ! (agg ! (and_then ! (get ! refl) (and_then ! (get ! refl) (no_more !)))) refl (box_typed E hv b o fa) $ returns ! (look_at ! 0 refl) $ free_all ! refl $
    suffices ! _ (ends_at 𝓛 F.ended stayed c z (word E hv b o) made (tt, tt) (tt, tt)) $ says ! refl $
    nothing ! $ nothing ! $ fjoin ! $ join ! $ nothing ! $ join ! $ done !)))
