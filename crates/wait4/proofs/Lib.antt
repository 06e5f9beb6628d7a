pub mod CommonNames
pub mod SoundAfterCollect
pub mod Search
pub mod Whole
pub mod Candidates
pub mod CollectRows
pub mod Unnamed
pub mod IsolationOfReports
pub mod IsolationOfWaits
pub mod News
pub mod ChildByNumber
mod LemmaSets
