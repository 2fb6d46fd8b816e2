pub mod ExpandRules
pub mod Mentioning
