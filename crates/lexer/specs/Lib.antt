pub mod Laws
pub mod Lexing
pub mod Reading
