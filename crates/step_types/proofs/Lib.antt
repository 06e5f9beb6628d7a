pub mod Joins
pub mod Replies
