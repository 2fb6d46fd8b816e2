pub mod Spelled
pub mod Tops
pub mod Hex
pub mod Apart
pub mod Made
pub mod Aliases
