pub mod AllRules
pub mod InsertRules
pub mod NamelessRules
pub mod NodeRules
pub mod VarRules
