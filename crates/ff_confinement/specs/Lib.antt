-- Runs of reactive machines, alone and multi-executed, and what is claimed of their text.
pub mod Runs
pub mod Copies
pub mod Text
pub mod Laws
pub mod Turns
pub mod Sharing
pub mod Worlds
pub mod Standings
pub mod Rested
pub mod Given
