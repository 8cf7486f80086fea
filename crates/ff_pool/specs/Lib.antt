pub mod Heads
pub mod Pooled
pub mod Draining
pub mod Events
pub mod Restored
pub mod Classes
