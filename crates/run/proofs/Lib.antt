pub mod Driving
pub mod Numbers
