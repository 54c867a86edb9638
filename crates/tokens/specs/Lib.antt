pub mod Laws
pub mod Printing
pub mod Stage
pub mod Stored
pub mod Token
