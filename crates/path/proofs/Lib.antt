pub mod StoredLaws
mod BuildLaws
pub mod ExtentLaws
pub mod Refusals
