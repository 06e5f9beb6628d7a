pub mod Counters
pub mod Lock
pub mod Tracing
pub mod Target
