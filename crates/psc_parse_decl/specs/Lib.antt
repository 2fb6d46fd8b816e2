pub mod Verdict
pub mod Item
