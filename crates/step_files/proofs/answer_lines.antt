pub mod Decimals
pub mod Laws
pub mod Sets
