pub mod Addresses
pub mod Ascii
pub mod Labels
pub mod Reading
pub mod Words
