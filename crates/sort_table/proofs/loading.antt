mod Laws
pub mod Loaded
