-- The lemmas that the proofs after an edit share, from one place.
pub use Rattle.trace_rows.proofs.Every.{All-any, All-append, All-both, All-edit, All-imply, and_left, and_right, any_forward, any_holds, any_more, both, by_bool, choose, count-cons, find_passes, find_some, none_of, not_same}
pub use Rattle.trace_rows.proofs.Passes.{own_rows}
pub use Rattle.trace_rows.proofs.Edited.{If_more, count_kept, edit_none, if_at, if_from, lwps_left, some_is}
pub use Rattle.trace_rows.proofs.Found.{any_by_number, own_row}
pub use Rattle.trace_rows.proofs.Numbers.{own_lwps, the_row}
pub use Rattle.trace_rows.proofs.Bits.{without_apart}
pub use Rattle.trace_rows.proofs.SoundAfterEdit.{Beside, Edit, Holds, KeptRow, Row, Same, Stay, all_rows, edit_holds, holds_sound, kept_all, like_self, lwp_is, no_ring, nobody, none_gone, row_is, sound_holds, stay}
pub use Rattle.trace_rows.proofs.ProcessEdits.{changed_row, changes_hold}
pub use Rattle.trace_rows.proofs.SoundAfterSettle.{post_chosen}
pub use Rattle.trace_rows.proofs.SoundAfterNotify.{live_told, notified_sound}
pub use Rattle.trace_rows.proofs.StoppedByOwnLwp.{reporter_there}
