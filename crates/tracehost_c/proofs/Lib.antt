pub mod AsBox
pub mod RowLemmas
pub mod LawLemmas
pub mod AllCallLemmas
