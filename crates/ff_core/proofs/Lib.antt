pub mod Holding
pub mod Turning
pub mod Lifted
pub mod Pointed
pub mod Answered
