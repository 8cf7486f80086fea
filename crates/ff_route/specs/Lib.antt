pub mod Route
pub mod Offering
pub mod Released
