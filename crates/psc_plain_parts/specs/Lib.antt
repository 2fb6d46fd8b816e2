pub mod Forms
pub mod Made
pub mod Problem
pub mod Runs
