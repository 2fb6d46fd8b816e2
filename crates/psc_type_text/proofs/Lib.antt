pub mod Appended
pub mod Letters
pub mod TextRules
