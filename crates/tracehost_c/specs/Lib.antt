pub mod Handle
pub mod Calls
pub mod Laws
pub mod FlatRows
pub mod Numbers
pub mod Replies
pub mod Rules
