pub mod Codes
pub mod Digits
pub mod Held
pub mod Recorded
pub mod Stops
