pub mod Path
pub mod Stored
pub mod Points
pub mod Reading
pub mod Building
pub mod Extent
