pub mod Bounds
pub mod Cells
pub mod HeaderLists
pub mod Walks
