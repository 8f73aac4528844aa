pub mod ClauseWalk
pub mod ClauseList
