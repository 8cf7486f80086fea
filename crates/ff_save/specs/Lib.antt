pub mod Saved
pub mod LevelByLevel
pub mod Gathered
pub mod Holding
pub mod Whole
pub mod Rest
