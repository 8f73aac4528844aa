pub mod Building
pub mod Laws
pub mod Walks
