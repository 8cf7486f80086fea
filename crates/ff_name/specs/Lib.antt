pub mod Holding
pub mod Address
pub mod Reading
pub mod Spelling
pub mod Words
