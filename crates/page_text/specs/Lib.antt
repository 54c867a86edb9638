pub mod Rows
pub mod Marks
pub mod Lines
pub mod Laws
