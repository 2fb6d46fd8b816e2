pub mod Scopes
pub mod Undoing
pub mod Keeping
pub mod Walking
