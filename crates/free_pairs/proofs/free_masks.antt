pub mod Laws
pub mod Masks
pub mod Variables
