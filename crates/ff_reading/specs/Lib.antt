-- What this crate specifies.
pub mod Shapes
pub mod Seen
