pub mod Operators
pub mod Told
