pub mod Tree
pub mod Model
pub mod General
pub mod Explore
pub mod Settled
