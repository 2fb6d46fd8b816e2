pub mod Right
pub mod Stack
