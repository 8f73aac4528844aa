pub mod Index
pub mod Description
pub mod IndexedPool
