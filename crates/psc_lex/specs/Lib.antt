pub mod Blocks
pub mod Characters
pub mod Cut
pub mod Machine
pub mod Signs
