pub mod Counting
pub mod Faults
pub mod Lexemes
pub mod Ranges
pub mod Scanning
pub mod Spacing
mod Widening
