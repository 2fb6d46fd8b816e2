pub mod Role
pub mod Nest
pub mod Depth
