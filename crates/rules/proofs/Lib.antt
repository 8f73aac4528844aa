pub mod sound
pub mod refusals
pub mod Accepted
pub mod Codes
pub mod Numbered
pub mod Schema
pub mod schemas
