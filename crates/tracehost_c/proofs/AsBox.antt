-- The names of walks, from one place. The handle and its parts own what a box at the same types owns.
pub use types.Kit.{◌$◌, ‵, raw, ◌⊛◌, ◌∵◌, !, qed, move, drop, use1, join, split, fsplit, fjoin, suffices, done, regoal, prop, Item, some, fpack, feq_i, later, split3, pick, rewrite, await, at_ret}
pub use types.{Kit.{fpick, feq_l}, Part.{agg, whole, sub}, Run.{no_more, and_then, returns, enter, stop, fld, of_opd, lit, first, blocks, exec}, ByLocal.{alloc_all, pass_all, free_all, look_at, get}}
pub use types.{ByLocal.{sets, get_in, lands_last, env, lands_as}, Logic.sem}
pub use mathlib.Core.{Path.{refl, sym, subst, ◌≡◌, ap, ◌∙◌}, List.{[], ◌∷◌, ◌++◌, List}}
pub use base.{Logic.{emp, id⊢, ent, never, fst∗}, Fml.{ftrue, fsep, flft}}
pub use prog.Wp.{WpFn}
pub use contract.{Running.tables, Monad.fact, BorrowLft.◌⊑◌}
pub use denote.{Exit.{yes, no}, Signature.{type_at, plain}, Steps.{nothing, heard, only}, Triple.{Walked.{says, Stays, stay_dropped, walk_of, ends_at, Goes-dropped}, Entry.on_entry, Spec.triple_of}}
pub use denote.{Triple.{Statement.Triple, Call.{calls_at_last, calls_at}, Table.framed}, RawPtr.{RawPtr, null_ptr, block_ptr, Ptr, ptr_val, in_a_block}, RattleType.Valss, Struct.Struct.within}
pub use denote.{Struct.{Owning.{shape, to}, Tuple.Tuple}, Param.bounded}
pub use Rattle.{std.{specs.{Prelude.{Some, None, Option, IsSome}, contracts.alloc.Global.the_field}, proofs.{raw_atomic.Walks.proved_at, Common.{true≢false, lit<}}}, std_alloc.proofs.BoxSteps.Form.D}
pub use Rattle.std_alloc.{proofs.{BoxSteps.{Form.{B, word, box_typed, X, Bx, R, P, args, box_ty, τ}, Steps.{box_out, box_in}}, ResultValues.and_tt}, specs.Box.Ownership.box_owns}
pub use Rattle.core.proofs.alloc.Calls.{α, handle_tells, Goes-blank, token}
pub use mir.{Val.{Val, has_ty, vnull, vstruct, vcons, vnil, vptr, WT, of_list}, MapTy.inst_fn, Syntax.{Body, place, copy, assign, rv_opd, seq, return, Args, a_type, dcons, dnil}, Raw.raw as bare}
pub use lib.Dec.{T}
use mir.Syntax.{impl, tnil}
use Rattle.std.specs.contracts.{alloc.Global.the_row as heap_row, impls.GlobalAllocator.TheImpl.{ghosts, dict}}
use Rattle.{std.proofs.alloc.Global.TheLaws.the_row_laws as heap_laws, open_sessions.{specs.contracts.session.Session.the_row, proofs.session.Session.TheLaws.the_row_laws}}

abbrev pub E : Bx
E = record { row = the_row; laws = the_row_laws; al = record { row = heap_row; laws = heap_laws; g = ghosts; d = dict; drops = impl [] tnil dnil } }
