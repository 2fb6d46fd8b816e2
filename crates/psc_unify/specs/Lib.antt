pub mod Tables
pub mod Kinds
pub mod Naming
pub mod Meaning
pub mod Solved
pub mod Scoped
pub mod Reading
pub mod Promise
