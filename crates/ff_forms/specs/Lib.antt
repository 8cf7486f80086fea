-- What this crate specifies.
pub mod Canonical
pub mod Faults
pub mod Grammar
pub mod Heads
pub mod Spellings
pub mod Words
