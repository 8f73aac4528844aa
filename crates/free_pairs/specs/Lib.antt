pub mod FreeLists
pub mod Mask
pub mod MaskWalk
pub mod Masking
pub mod BindingFree
pub mod BindingListed
