pub mod Levels
pub mod Inputs
pub mod Pools
