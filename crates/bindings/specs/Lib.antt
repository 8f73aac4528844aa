pub mod Binding
pub mod BindingAnswer
pub mod Distinct
pub mod OuterPairs
pub mod Used
