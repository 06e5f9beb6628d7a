pub mod CommonNames
pub mod SignalLemmas
pub mod TokenLemmas
pub mod DepthLemmas
