pub mod CommonNames
pub mod Answering
pub mod WithPoliciesLemmas
pub mod ReadLoops
pub mod Lists
pub mod KeyLemmas
pub mod Plans
pub mod KeySets
