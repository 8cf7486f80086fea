pub mod Lists
mod Rows
pub mod Runs
pub mod Copies
pub mod Text
pub mod Lines
pub mod Fits
mod Names
pub mod Own
pub mod View
pub mod Laws
pub mod Turns
pub mod Sharing
pub mod Below
pub mod Finishing
pub mod Classes
pub mod Worlds
pub mod Schedules
pub mod Standings
pub mod Resting
pub mod Alike
pub mod Given
