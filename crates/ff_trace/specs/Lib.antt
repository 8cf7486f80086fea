pub mod Faults
pub mod Lines
pub mod Parts
pub mod Pieces
pub mod Printed
