pub mod Table
pub mod TableAnswer
pub mod TableCases
