pub mod Lexing
pub mod Reading
