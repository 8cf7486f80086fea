-- What this crate specifies.
pub mod Again
pub mod Pieces
pub mod Weighed
