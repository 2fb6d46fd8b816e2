pub mod RowRules
