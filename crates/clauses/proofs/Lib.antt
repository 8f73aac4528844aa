pub mod ClauseAt
