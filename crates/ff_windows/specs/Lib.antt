pub mod Queues
pub mod Recorded
