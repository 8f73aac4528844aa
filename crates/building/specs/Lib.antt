pub mod Arrays
pub mod Walk
pub mod Lent
