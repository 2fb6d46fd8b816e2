pub mod Reserved
pub mod Names
pub mod Kinds
