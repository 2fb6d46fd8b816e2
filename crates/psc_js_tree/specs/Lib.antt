pub mod Scope
pub mod Binder
pub mod Expr
pub mod Top
pub mod Module
