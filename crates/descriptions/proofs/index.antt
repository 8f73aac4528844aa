pub mod Adding
pub mod Entries
pub mod Forgetting
pub mod Kept
pub mod Laws
pub mod Walked
