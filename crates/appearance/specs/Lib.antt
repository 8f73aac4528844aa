pub mod Bits
pub mod Pairs
pub mod Rows
pub mod Walk
