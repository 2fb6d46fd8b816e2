pub mod shared
pub mod shared_items
