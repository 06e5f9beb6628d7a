-- The words of other crates, and the types of this one, that these definitions use, from one place.
pub use Rattle.proc_table.specs.Members.{member}
pub use Rattle.event_masks.specs.Exits.{no_events}
pub use Rattle.lwp_table.specs.Chain.{IsChain, leads_to}
pub use Rattle.lwp_table.specs.Kept.{listing}
pub use Rattle.lwp_table.specs.Lwps.{ComputesRows, Differ, with_lwp, without_lwp}
pub use Rattle.lwp_table.specs.declared.LwpData.{LwpData}
pub use Rattle.pid_blocks.specs.Blocks.{InBlock, cursor_after, next_free, pid_block, slot, tid_block, users}
pub use Rattle.pid_blocks.specs.Users.{IsUser}
pub use Rattle.proc_table.specs.declared.ProcData.{ProcData}
pub use Rattle.proc_table.specs.declared.State.{State}
pub use Rattle.proc_table.specs.declared.State.TheVariants.{Job, Run, Trace, Zombie}
pub use Rattle.proc_table.specs.declared.links.ListLinks.{ListLinks}
pub use Rattle.proc_table.specs.declared.links.ListKind.{ListKind}
pub use Rattle.proc_table.specs.declared.links.ListKind.TheVariants.{Children, Tracees}
pub use Rattle.proc_table.specs.declared.links.RowNode.{RowNode}
pub use Rattle.signals.specs.Table.{all_default}
pub use Rattle.std.specs.List.{AllByRecursion, list_any}
pub use Rattle.std.specs.Map.{lookup}
pub use Rattle.std.specs.Option.{IsSomeAnd, option_and_then, option_map, option_map_or}
pub use Rattle.std.specs.Prelude.{Bool, IfSome, List, None, Option, Some, [], count_by, false, filter, filter_map, find, get_or, if◌then◌else◌, is_none, is_some, leb, length, ltb, map, nat_eq, not}
pub use Rattle.std.specs.Prelude.{set, true, ℕ, ◌&&◌, ◌++◌, ◌+◌, ◌<◌, ◌==◌, ◌∷◌, ◌≡◌, ◌≢◌, ◌≤◌}
