pub mod Row
pub mod Bounds
pub mod Steps
pub mod Writes
