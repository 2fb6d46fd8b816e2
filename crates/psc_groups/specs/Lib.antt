pub mod Graph
pub mod Path
pub mod Order
pub mod Groups
