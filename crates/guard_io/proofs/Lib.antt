pub mod KnownBytes
pub mod Untold
