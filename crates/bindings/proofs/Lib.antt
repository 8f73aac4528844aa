pub mod Distinct
pub mod Outcomes
