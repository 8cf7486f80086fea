pub mod Assignment
pub mod ByteOrder
pub mod Members
pub mod Naming
pub mod Printing
pub mod Reading
pub mod Table
