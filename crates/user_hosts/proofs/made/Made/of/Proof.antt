-- `of` makes the empty struct, with the list that its clause names. Assumes `Logic`.
use mathlib.Core.Path.{refl}
use mathlib.Core.List.{[], ◌∷◌}
use seplogic.Ra.Ura.{Ura}
use mir.Syntax.{Fn, Dict, named, a_type, dcons, dnil}
use mir.MapTy.{inst_fn}
use mir.Val.{Val, vptr, vstruct, vnil}
use base.Logic.{SProp}
use prog.Memory.{Memory}
use prog.Routine.{Routine}
use prog.Wp.{Calls, Loops, WpFn, Tables}
use types.Logic.{Logic}
use contract.Monad.{Fun}
use contract.Running.{tables, tables_of}
use sound.WpLaws.{WpFn-mono}
use types.Kit.{‵, raw, ◌⊛◌, ◌$◌, ◌∵◌, !, qed, keep, split, move, suffices, done}
use types.Run.{no_more, returns, enter}
use types.Part.{agg}
use types.ByLocal.{alloc_all, pass_all, free_all, look_at, sets}
use denote.Exit.{yes}
use denote.RattleType.{RattleType, owns}
use denote.Param.{param, bounded}
use denote.Ref.{shr_vals, shr_Tells}
use denote.Shadow.{pure_i}
use denote.Signature.{plain, types_at}
use denote.Triple.Entry.{alive}
use denote.Triple.Clauses.{Clauses, Ended, closing}
use denote.Triple.Spec.{Meets, triple_of}
use denote.Triple.Table.{entered}
use denote.Triple.Walked.{says, stay_none_ref, Stays, walk_of, Walks, ends_at, walked, Goes-none_ref, walk_Meets}
use Rattle.user_hosts.specs.declared.made.Lists.{Ghosts}
use Rattle.user_hosts.specs.contracts.made.Made as made
use Rattle.user_hosts.specs.contracts.made.Made.of as f
use Rattle.user_hosts.specs.contracts.made.Made.of.Key.{name as key}
use Rattle.user_hosts.proofs.made.Made.of.Statement.{statement}
use Rattle.user_hosts.proofs.made.Made.of.Code as code

module _ (X Y : RattleType) (g : Ghosts Y.Denot X.Denot) (d : Dict) where
  abbrev function : Fn
  function = inst_fn (bounded (a_type ∷ a_type ∷ []) (X, (Y, tt)) (dcons d dnil)) code.function

  abbrev ended : Ended
  ended = f.ended X Y g d

  abbrev stayed : Stays ended.signature.params ended.kept
  stayed = (stay_none_ref (0 ∷ []) tt (plain (λ _. param 0 X)) yes, tt)

  module _ {M : Type 1} {𝓤 : Ura M} (𝓛 : Logic 𝓤) (mem : Memory → SProp 𝓤) (run : Routine → Fun 𝓤) where
    open 𝓛 use {H}

    abbrev held : Clauses 𝓤 ended
    held = f.clauses X Y g d 𝓛 mem run

    module _ (C : Calls 𝓤 H) (Λ : Loops 𝓤 H) where
      walks : Walks 𝓛 ended stayed (WpFn 𝓤 H C Λ function) held
      walks =
          walked 𝓛 ended stayed held (WpFn 𝓤 H C Λ function) (λ κs. (shr_vals, tt)) (λ κs. (shr_Tells (named 0) κs.0 (param 0 X), tt)) (λ κs qs bounds a gh are.
          let value : Val = vptr a.0.ref_ptr.0 a.0.ref_ptr.1 in
          let list : made.the_row.Denot = record { steps = g.steps a.0.now } in
          let bound : (walk_of 𝓛 ended stayed held).Ghost = ((κs, qs, bounds, a, (value ∷ [], tt)), gh) in
          qed 𝓛 ((raw (alive 𝓛 ended.signature κs qs) ⊛ ‵ (owns (types_at ended.signature.params κs) a (value ∷ [], tt))) ∷ raw ((held κs a).requires gh) ∷ []) ∵ keep ! (0 ∷ []) $ split ! $ enter ! C Λ function (value ∷ []) _ $
          alloc_all ! (λ l. pass_all ! refl ((tt, tt), tt) $ sets ! (agg ! (no_more !)) refl (tt, tt) $
          returns ! (look_at ! 0 refl) $ free_all ! refl $
          suffices ! _ (ends_at 𝓛 ended stayed held bound (vstruct vnil) list (tt, tt) (tt, tt)) $
          says ! refl $ pure_i ! (made.the_row.own_val list (vstruct vnil ∷ [])) ((λ vss. (tt, tt)), tt) ((tt, (refl, tt)), tt) $
          move ! (1 ∷ 2 ∷ 0 ∷ []) $ done !))

    meets : (𝓣 : Tables 𝓤 H) → Meets 𝓛 ended.signature (WpFn 𝓤 H 𝓣.C 𝓣.Λ function) (closing 𝓛 ended held)
    meets 𝓣 =
        walk_Meets 𝓛 ended stayed (Goes-none_ref 𝓛 3 (0 ∷ []) tt (plain (λ _. param 0 X)) yes, tt) held
        (WpFn 𝓤 H 𝓣.C 𝓣.Λ function) (WpFn-mono 𝓤 H 𝓛.laws 𝓣 function) (walks 𝓣.C 𝓣.Λ)

pub of_spec : {M : Type 1} → statement M
unfolding tables_of
of_spec 𝓤 𝓛 𝓜 𝓡 wired X Y LX LY g d met =
    let 𝓣 : Tables 𝓤 𝓛.H = tables_of 𝓤 𝓛.H 𝓜 (tables 𝓤 𝓛.H 𝓜 𝓡 𝓡.env) in
    entered 𝓤 𝓛.H (triple_of 𝓛 (f.signature X Y) (closing 𝓛 (ended X Y g d) (held X Y g d 𝓛 𝓜.mem 𝓡.returns))) 𝓣.C 𝓣.Λ (key (bounded (a_type ∷ a_type ∷ []) (X, (Y, tt)) (dcons d dnil))) (function X Y g d)
    (code.unfolded 𝓤 𝓛.H 𝓜 𝓡 wired (X, (Y, tt)) d) (meets X Y g d 𝓛 𝓜.mem 𝓡.returns 𝓣)
