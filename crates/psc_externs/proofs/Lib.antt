pub mod SizeRules
pub mod WrittenRules
