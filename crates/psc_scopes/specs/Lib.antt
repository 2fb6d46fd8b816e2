pub mod Scope
pub mod Restoring
pub mod Keeping
pub mod Walking
