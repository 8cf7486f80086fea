pub mod Force
pub mod Naming
pub mod Beside
pub mod Gathering
pub mod Cutting
pub mod Carrying
pub mod Worlds
pub mod Owing
mod Playing
pub mod Telling
pub mod Ends
pub mod Finding
pub mod Giving
pub mod Whole
