pub mod Answer
pub mod Refusal
pub mod Outcome
