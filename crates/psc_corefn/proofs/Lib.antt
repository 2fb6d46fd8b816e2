pub mod Appended
pub mod Letters
