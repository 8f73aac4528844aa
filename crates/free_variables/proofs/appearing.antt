pub mod Booleans
pub mod Once
pub mod Listed
pub mod Steps
pub mod From
