pub mod Free
pub mod FreeMemo
pub mod Names
pub mod NamesWalk
pub mod Once
pub mod Appearing
pub mod Occurs
