pub mod Spelling
pub mod code
