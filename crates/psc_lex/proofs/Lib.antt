pub mod Comments
pub mod Kept
pub mod Longest
pub mod Pieces
pub mod Turns
