pub mod Bytes
pub mod Forms
pub mod Lexes
pub mod code
