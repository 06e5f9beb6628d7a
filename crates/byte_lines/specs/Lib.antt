pub mod Lines
pub mod FedLines
pub mod Differences
