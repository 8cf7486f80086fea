pub mod Asks
pub mod Cookies
pub mod Entries
