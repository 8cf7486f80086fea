pub mod Stood
pub mod Resting
pub mod New
pub mod Turns
pub mod Ending
pub mod Owing
pub mod GoingOn
pub mod Telling
