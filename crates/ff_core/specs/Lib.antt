pub mod Copies
pub mod Views
pub mod Calls
