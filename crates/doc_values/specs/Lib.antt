pub mod Limits
pub mod Merge
pub mod Tree
pub mod Unfinished
pub mod Places
pub mod Position
pub mod code
