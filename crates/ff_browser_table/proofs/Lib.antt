pub mod Spelled
pub mod Stepping
