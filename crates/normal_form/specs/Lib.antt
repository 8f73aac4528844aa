pub mod Calls
pub mod ClauseCall
pub mod Promise
pub mod RoomCases
pub mod ClausalForms
