pub mod Canonical
pub mod Signed
pub mod Texts
pub mod Values
