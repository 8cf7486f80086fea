pub mod Answering
pub mod Appending
pub mod Rises
pub mod Lists
