pub mod Trees
pub mod Waiting
