pub mod Scopes
pub mod Added
