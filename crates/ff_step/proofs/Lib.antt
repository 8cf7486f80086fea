pub mod Values
pub mod Reductions
pub mod Calling
pub mod Testing
pub mod Binding
pub mod Works
