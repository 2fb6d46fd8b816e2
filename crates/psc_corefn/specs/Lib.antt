pub mod Json
pub mod Ann
pub mod Literal
pub mod Binder
pub mod Expr
pub mod Module
