pub mod Rising
pub mod Sorted
