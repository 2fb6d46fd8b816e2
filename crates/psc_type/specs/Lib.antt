pub mod Canonical
pub mod Closed
pub mod Nameless
pub mod Nodes
pub mod Vars
