pub mod ReadLemmas
pub mod WriteLemmas
pub mod LineLemmas
pub mod FedLineLemmas
pub mod WalkLemmas
