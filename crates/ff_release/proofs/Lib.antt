pub mod Released
pub mod Taking
pub mod Texts
pub mod Owing
