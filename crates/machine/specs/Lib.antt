pub mod Abstraction
pub mod Clips
pub mod Laws
pub mod Machine
pub mod Names
pub mod Numbers
pub mod Stage
pub mod Props
