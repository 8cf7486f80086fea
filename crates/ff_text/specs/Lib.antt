pub mod Bytes
pub mod Faults
pub mod Classes
pub mod Machine
pub mod Notation
pub mod Printed
