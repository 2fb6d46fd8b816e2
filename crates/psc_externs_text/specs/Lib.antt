pub mod Meant
pub mod Parts
pub mod Texts
