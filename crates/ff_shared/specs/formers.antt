pub mod list
pub mod owned
pub mod single
