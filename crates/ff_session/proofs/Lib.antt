pub mod Lawful
pub mod Inputs
pub mod Giving
pub mod Turning
pub mod Texts
pub mod LevelTexts
pub mod Feeding
pub mod Closing
pub mod Counted
pub mod Owing
pub mod Headline
pub mod Standing
mod Parts
pub mod Anywhere
pub mod Cut
pub mod Lines
