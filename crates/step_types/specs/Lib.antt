pub mod Status
pub mod Events
pub mod Plain
pub mod Replies
pub mod Words
pub mod Names
