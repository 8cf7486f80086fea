pub mod Copied
pub mod Opened
pub mod Restored
pub mod Views
