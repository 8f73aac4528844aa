pub mod Narrowed
pub mod WrittenBack
pub mod SameOutcomes
pub mod NarrowedCases
pub mod OnBytes
