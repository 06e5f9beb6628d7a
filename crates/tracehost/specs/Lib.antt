pub mod Options
pub mod Asking
pub mod Given
pub mod Found
pub mod Runs
pub mod Statuses
pub mod Lists
