pub mod Pieces
pub mod TraceLemmas
pub mod RowLemmas
