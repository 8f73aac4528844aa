pub mod Joining
pub mod Laws
