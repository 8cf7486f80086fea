pub mod Counted
pub mod Distinct
pub mod Halves
pub mod Mapped
pub mod Recorded
pub mod Searching
pub mod Kept
