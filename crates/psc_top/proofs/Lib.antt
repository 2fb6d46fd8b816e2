pub mod Cuts
pub mod Letters
pub mod ModuleWords
pub mod Numbers
pub mod Readings
pub mod Ends
pub mod Spellings
pub mod Rows
