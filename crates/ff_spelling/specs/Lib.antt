pub mod Fits
pub mod Told
