pub mod Words
pub mod Recs
pub mod Rows
pub mod Reading
pub mod Drafting
pub mod Drafted
pub mod Pieces
