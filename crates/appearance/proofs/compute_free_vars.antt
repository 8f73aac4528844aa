pub mod Gathering
pub mod Hiding
pub mod PairLoops
pub mod Laws
pub mod Runs
pub mod Listing
