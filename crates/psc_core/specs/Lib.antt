pub mod Evidence
pub mod Binder
pub mod Numbers
pub mod Expr
