pub mod Chain
pub mod Lines
pub mod Runs
pub mod Sending
pub mod Whole
