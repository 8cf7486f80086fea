pub mod Bounds
pub mod LevelBits
pub mod LevelSet
pub mod Levels
pub mod Order
pub mod Relation
