pub mod Format
pub mod Calls
