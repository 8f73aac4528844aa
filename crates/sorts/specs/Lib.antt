pub mod ListRule
pub mod SortRule
