pub mod Mentions
pub mod Refusals
