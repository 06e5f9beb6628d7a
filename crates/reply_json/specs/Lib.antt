pub mod Objects
pub mod Replies
