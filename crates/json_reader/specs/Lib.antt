pub mod Json
pub mod Refusals
pub mod code
