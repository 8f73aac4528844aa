pub mod patterns
pub mod truth
pub mod places
pub mod trees
