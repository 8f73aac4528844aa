pub mod Clauses
pub mod Follows
pub mod Laws
