pub mod Examples
pub mod Jobs
pub mod Listed
pub mod Promise
pub mod Regions
pub mod Views
