pub mod ClauseSearch
pub mod NoCapture
pub mod Promises
pub mod QntCnf
pub mod TakenList
pub mod TakenSearch
pub mod Searching
