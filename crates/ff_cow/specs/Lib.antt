pub mod Nodes
pub mod Tower
pub mod Push
pub mod Edits
