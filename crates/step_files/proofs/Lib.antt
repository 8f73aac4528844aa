pub mod Accepted
pub mod Files
pub mod NarrowedTags
