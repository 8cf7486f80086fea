pub mod Lent
pub mod Copies
