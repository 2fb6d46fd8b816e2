pub mod Candidates
pub mod Lookup
pub mod Names
pub mod Problems
