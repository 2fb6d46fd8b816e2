pub mod KeptNames
pub mod Lists
