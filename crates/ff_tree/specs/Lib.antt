pub mod Ops
pub mod Spelled
pub mod Weight
pub mod Words
