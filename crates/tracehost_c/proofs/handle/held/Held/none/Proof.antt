-- `none` makes a handle of the null pointer, which owns nothing.
use Rattle.tracehost_c.proofs.AsBox.{◌$◌, refl, List, [], ◌∷◌, ◌++◌, None, the_field, lit<, α, handle_tells, and_tt, Val, has_ty, vnull, vstruct, vcons, vnil, emp, id⊢, ftrue, fsep, WpFn, ‵, raw, ◌⊛◌}
use Rattle.tracehost_c.proofs.AsBox.{◌∵◌, !, qed, move, drop, use1, join, split, fsplit, fjoin, fpack, feq_i, suffices, done, agg, lit, no_more, and_then, returns, enter, alloc_all, pass_all}
use Rattle.tracehost_c.proofs.AsBox.{free_all, look_at, get, sets, tables, yes, RawPtr, Valss, null_ptr, type_at, nothing, within, shape, to, says, Stays, stay_dropped, walk_of, ends_at, Goes-dropped}
use Rattle.tracehost_c.proofs.AsBox.{plain, proved_at, regoal, prop, E}
use Rattle.tracehost_c.proofs.handle.held.Held.none.Statement.{statement}
use Rattle.tracehost_c.specs.contracts.handle.held.Held as handle
use Rattle.tracehost_c.specs.contracts.handle.held.Held.none as F
use Rattle.tracehost_c.proofs.handle.held.Held.none.Code as code

pub none_spec : {M : Type 1} → statement M
none_spec 𝓤 𝓛 𝓜 𝓡 wired =
    let c = F.clauses 𝓛 𝓜.mem 𝓡.returns in let 𝓣 = tables 𝓤 𝓛.H 𝓜 𝓡 𝓡.env in
    let stayed : Stays F.ended.signature.params F.ended.kept = (stay_dropped _ yes, tt) in
    proved_at 𝓛 F.ended stayed c 𝓜 𝓡 (Goes-dropped 𝓛 0 (plain (λ _. E.al.row)) yes (λ κs x f. refl), tt) F.Key.name code.function (code.unfolded 𝓤 𝓛.H 𝓜 𝓡 wired) (λ z are.
    let Post = (walk_of 𝓛 F.ended stayed c).post z in
    let a = z.0.3.0 in
    let To = type_at F.signature.result tt in
    let made : To.Denot = record { ptr = null_ptr; alloc = a; session = None } in
    qed 𝓛 ((‵ ftrue ⊛ ‵ (fsep (E.al.row.own_val a z.0.4.0) ftrue)) ∷ raw (emp 𝓤) ∷ []) ∵ split ! $ drop ! $ fsplit ! $ move ! (1 ∷ 2 ∷ []) $ drop ! $ drop ! $
    handle_tells E.al ! a z.0.4.0 (λ hv ea fa.
    let w : Val = vstruct (vcons vnull (vcons hv vnil)) in
    regoal ! (λ us. prop (WpFn 𝓤 𝓛.H 𝓣.C 𝓣.Λ code.function (us ++ []) Post)) ea refl $
    enter ! _ _ _ _ _ $ alloc_all ! (λ ls. pass_all ! refl (fa, tt) $
    sets ! (agg ! (and_then ! (lit ! tt) (and_then ! (get ! refl) (no_more !)))) refl (and_tt (has_ty (α E.al) hv) fa.0, (record { fits = lit< tt }, (fa.1, tt))) $
    returns ! (look_at ! 0 refl) $ free_all ! refl $
    nothing ! $ move ! (1 ∷ 0 ∷ []) $ fjoin ! $ feq_i ! (List Val) (vnull ∷ []) (vnull ∷ []) refl $ fjoin ! $ feq_i ! (List Val) (w ∷ []) (w ∷ []) refl $ fjoin ! $
    fpack ! (Valss (RawPtr ∷ the_field.row ∷ [])) (within (shape handle.the_type) (to handle.the_type made) (w ∷ [])) (vnull ∷ [], (hv ∷ [], tt)) $ nothing ! $ move ! (1 ∷ 0 ∷ []) $ fjoin ! $
    use1 𝓛 (‵ (To.own_val made (w ∷ []))) (id⊢ 𝓤 _) $
    suffices ! _ (ends_at 𝓛 F.ended stayed c z w made (tt, tt) (tt, tt)) $ says ! refl $
    nothing ! $ nothing ! $ fjoin ! $ join ! $ nothing ! $ join ! $ done !)))
