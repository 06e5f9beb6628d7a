-- `into_parts` moves two fields, and what they own goes with them.
use Rattle.tracehost_c.proofs.AsBox.{◌$◌, refl, sym, [], ◌∷◌, ◌++◌, None, ent, id⊢, ftrue, fsep, WpFn, Item, ‵, raw, ◌⊛◌, ◌∵◌, !, qed, move, drop, use1, join, split, fsplit, fjoin, suffices, done}
use Rattle.tracehost_c.proofs.AsBox.{agg, no_more, and_then, returns, enter, alloc_all, pass_all, free_all, look_at, get, sets, tables, yes, type_at, nothing, says, Stays, stay_dropped, walk_of}
use Rattle.tracehost_c.proofs.AsBox.{ends_at, Goes-dropped, true≢false, Option, Some, IsSome, X, D, B, word, box_typed, box_out, box_in, on_entry, fact, whole, sub, stop, fld, of_opd, get_in}
use Rattle.tracehost_c.proofs.AsBox.{plain, heard, proved_at, regoal, prop, E}
use Rattle.tracehost_c.proofs.handle.held.Held.into_parts.Statement.{statement}
use Rattle.tracehost_c.specs.contracts.handle.held.Held as handle
use Rattle.tracehost_c.specs.contracts.handle.held.Held.into_parts as F
use Rattle.tracehost_c.proofs.handle.held.Held.into_parts.Code as code

pub into_parts_spec : {M : Type 1} → statement M
into_parts_spec 𝓤 𝓛 𝓜 𝓡 wired =
    let c = F.clauses 𝓛 𝓜.mem 𝓡.returns in let 𝓣 = tables 𝓤 𝓛.H 𝓜 𝓡 𝓡.env in
    let stayed : Stays F.ended.signature.params F.ended.kept = (stay_dropped _ yes, tt) in let W = walk_of 𝓛 F.ended stayed c in
    proved_at 𝓛 F.ended stayed c 𝓜 𝓡 (Goes-dropped 𝓛 0 (plain (λ _. handle.the_row)) yes (λ κs x f. refl), tt) F.Key.name code.function (code.unfolded 𝓤 𝓛.H 𝓜 𝓡 wired) (λ z are.
    let at : Option (X E) → W.Ghost = λ s. ((tt, tt, tt, (record { ptr = z.0.3.0.ptr; alloc = z.0.3.0.alloc; session = s }, tt), (z.0.4.0, tt)), tt) in
    let needs : Option (X E) → Item 𝓤 = λ s. raw (fact 𝓤 (IsSome s)) in
    elim z.0.3.0.session as (λ s. ent 𝓤 (W.pre (at s)) (WpFn 𝓤 𝓛.H 𝓣.C 𝓣.Λ code.function (z.0.4.0 ++ []) (W.post (at s)))) [
      | None ↦ qed 𝓛 (raw (on_entry 𝓛 F.signature (at None).0.0 (at None).0.1 (at None).0.3 (at None).0.4) ∷ needs None ∷ []) ∵ drop ! $ heard ! _ (λ some. absurd (true≢false (sym some)))
      | Some x ↦ (let v : D E = record { ptr = z.0.3.0.ptr; alloc = z.0.3.0.alloc; value = x } in
          let To = type_at F.signature.result tt in
          let made : To.Denot = record { ptr = v.ptr; alloc = v.alloc; value = v.value } in
          qed 𝓛 ((‵ ftrue ⊛ ‵ (fsep ((B E).own_val v z.0.4.0) ftrue)) ∷ needs (Some x) ∷ []) ∵ move ! (1 ∷ []) $ drop ! $ split ! $ drop ! $ fsplit ! $
          box_out E ! v z.0.4.0 (λ b o hv e us fa. box_in E ! v b o v.value e refl $ use1 𝓛 (‵ (To.own_val made (word E hv b o ∷ []))) (id⊢ 𝓤 _) $ move ! (1 ∷ []) $ drop ! $
          regoal ! (λ us. prop (WpFn 𝓤 𝓛.H 𝓣.C 𝓣.Λ code.function (us ++ []) (W.post (at (Some x))))) us refl $
          enter ! _ _ _ _ _ $ alloc_all ! (λ ls. pass_all ! refl (box_typed E hv b o fa, tt) $
          sets ! (of_opd ! (get_in ! (fld ! refl (stop !)) (sub ! 0 refl (whole !)))) refl (tt, tt) $ sets ! (of_opd ! (get_in ! (fld ! refl (stop !)) (sub ! 1 refl (whole !)))) refl fa $
          sets ! (of_opd ! (get ! refl)) refl (tt, tt) $ sets ! (agg ! (and_then ! (get ! refl) (and_then ! (get ! refl) (no_more !)))) refl (box_typed E hv b o fa) $ returns ! (look_at ! 0 refl) $ free_all ! refl $
          suffices ! _ (ends_at 𝓛 F.ended stayed c (at (Some x)) (word E hv b o) made (tt, tt) (tt, tt)) $ says ! refl $
          nothing ! $ nothing ! $ fjoin ! $ join ! $ nothing ! $ join ! $ done !)))
    ])
