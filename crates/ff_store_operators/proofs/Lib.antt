pub mod Doing
pub mod Purity
pub mod Opened
pub mod Lives
pub mod Addresses
pub mod Walked
