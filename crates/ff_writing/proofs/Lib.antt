pub mod Checking
pub mod Writing
pub mod Tallies
pub mod DrawnLines
pub mod DrawnTrace
pub mod Drawing
