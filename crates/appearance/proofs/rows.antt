pub mod Adding
pub mod Dropping
pub mod Kept
pub mod Making
pub mod Numbers
pub mod Tables
pub mod Words
