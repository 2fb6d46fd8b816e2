pub mod Literal
pub mod Place
pub mod Expr
pub mod Module
