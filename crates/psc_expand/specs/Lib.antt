pub mod Expand
pub mod Head
