-- The names that proofs speak by: those of the libraries and crates below, and of this crate's definitions.
pub use Rattle.std.specs.Fn.{FnReturnsAt}
pub use Rattle.std.specs.List.{AllByRecursion, cons_option, list_any}
pub use Rattle.std.specs.Map.{lookup}
pub use Rattle.std.specs.Option.{SomeIff, option_and_then, option_eq, option_map}
pub use Rattle.std.specs.Prelude.{IsSomeAnd, count_by, filter, filter_map, find, ltb, not, ◌&&◌}
pub use Rattle.std.proofs.Common.{Bool, IfSome, IsSome, List, None, Option, Some, [], ap, ap₂, arith, cond, false, get_or, if◌then◌else◌, inl, inr, is_none, is_some, leb, length, map, nat_eq, refl}
pub use Rattle.std.proofs.Common.{replicate, rules, set, subst, suc, sym, true, zero, ℕ, ◌*◌, ◌++◌, ◌+◌, ◌-◌, ◌<◌, ◌∙◌, ◌∷◌, ◌≡◌, ◌≢◌, ◌≤◌, ◌⊎◌}
pub use Rattle.std.proofs.lemmas.Bool.{cases_Bool, cases_eq, cases_lt, true≢false}
pub use Rattle.std.proofs.lemmas.Bool.Decides.{eqb_tells, leb_tells, nat_tests}
pub use Rattle.std.proofs.lemmas.List.{get_or-replicate, get_or-set_other, get_or-set_same, length-set}
pub use Rattle.std.proofs.lemmas.List.Sums.{sum_by-cons}
pub use Rattle.std.proofs.lemmas.Option.{same_Some, some_pair_parts}
pub use Rattle.lwp_table.proofs.Numbered.{any-found, count-put, find-map, found-number, lacks-any, map-changed, map-lacks, put-number}
pub use Rattle.lwp_table.specs.Chain.{IsChain, IsNearest, above, anywhere, below, down, leads_to, up}
pub use Rattle.lwp_table.specs.Kept.{listing}
pub use Rattle.lwp_table.specs.Lwps.{Differ, Lacks, LacksLwp, Once, first_lwp, lwp_of, put_lwp, with_lwp, without_lwp}
pub use Rattle.lwp_table.specs.declared.LwpData.{LwpData}
pub use Rattle.pid_blocks.specs.Blocks.{InBlock, cursor_after, first_free, next_free, pid_block, rising, slot, tid_block, users}
pub use Rattle.pid_blocks.specs.Users.{IsUser}
pub use Rattle.pid_blocks.specs.declared.Block.{Block}
pub use Rattle.slab.proofs.SlabLemmas.{Updates-with_value}
pub use Rattle.slab.specs.Slab.{get, with_value}
pub use Rattle.proc_table.specs.Edits.{map_lwps, own_lwp}
pub use Rattle.proc_table.specs.Fresh.{add_lwp, add_process, fresh_pid, fresh_tid, is_lwp, is_process, lwp_count_of, no_rows, process_count}
pub use Rattle.proc_table.specs.Keep.{keep}
pub use Rattle.proc_table.specs.Kept.{AllAbove, InOwnBlock, InOwnersBlock, IsRow, Named, Rise, TableInvariant, drop_lwp, drop_process, put_process, set_lwp, set_process}
pub use Rattle.proc_table.specs.Laws.{CountsSeeOwn, FreshSeesOwn, LeastOrNone, LwpSeesOwn, NextChildLeast, NextOfLeast, NextSeesOwn, NextTraceeLeast, NumberSeesOwn, ProcessSeesOwn, SeesOwn, only_of}
pub use Rattle.proc_table.specs.Links.{IsLinked, IsNext, Node, at_least, backward, forward, hung, keys, members}
pub use Rattle.proc_table.specs.ListNodes.{AreLinked, IsFirst, IsHead, IsTied, find_named, links_in, list_owner, next_named, node_of, nodes_of, other, parent_named, pick, put_links, rows_of, slot_named, unlinked}
pub use Rattle.proc_table.specs.Processes.{is_this, of_user, placed, process_of, traces}
pub use Rattle.proc_table.specs.Rows.{Rows, by_owner, change, change_lwp, change_process, is_numbered, remove_lwp}
pub use Rattle.proc_table.specs.Seen.{owns, seen_lwp}
pub use Rattle.proc_table.specs.Slots.{IsSlotted, IsStored, IsTally, all_rows, look}
pub use Rattle.proc_table.specs.Walks.{DecidesRows, find_child, find_tracee, next_child, next_of, next_tracee}
pub use Rattle.proc_table.specs.declared.ProcData.{ProcData}
pub use Rattle.proc_table.specs.declared.links.ListLinks.{ListLinks}
pub use Rattle.proc_table.specs.declared.links.ListKind.{ListKind}
pub use Rattle.proc_table.specs.declared.links.ListKind.TheVariants.{Children, Tracees}
pub use Rattle.proc_table.specs.declared.links.RowNode.{RowNode}
