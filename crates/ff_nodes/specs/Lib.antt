pub mod Cells
pub mod Laying
pub mod Marked
pub mod Raised
pub mod Recorded
pub mod Room
