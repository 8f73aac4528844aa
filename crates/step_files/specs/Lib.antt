pub mod Decimal
pub mod Text
pub mod FileCases
pub mod StepFile
pub mod Steps
pub mod Words
