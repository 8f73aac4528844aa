pub mod Notation
pub mod Schemas
