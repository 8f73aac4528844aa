pub mod Back
pub mod Passes
pub mod Trees
pub mod Bindings
pub mod Sound
