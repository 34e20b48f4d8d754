pub mod Loads
mod NotMerged
pub mod Plainness
mod ReadParams
mod Refusing
pub mod Stopping
