pub mod Faults
pub mod Kinds
pub mod Offers
pub mod Same
pub mod Spelled
pub mod Weight
