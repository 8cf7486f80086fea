pub mod Answers
pub mod Lent
pub mod Limits
pub mod Operands
pub mod Pure
