pub mod Entities
pub mod Names
pub mod Sizes
pub mod Written
