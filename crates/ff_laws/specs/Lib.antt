pub mod Keeps
pub mod Later
pub mod Puts
pub mod Reduced
