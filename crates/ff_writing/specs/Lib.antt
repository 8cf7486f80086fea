pub mod Checked
pub mod Upgraded
pub mod Generated
