pub mod CommonNames
pub mod Scripts
pub mod Pairing
pub mod Owned
pub mod Schedules
