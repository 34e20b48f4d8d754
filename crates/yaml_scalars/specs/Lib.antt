pub mod Lines
pub mod Plain
pub mod Quoted
pub mod Block
pub mod Kinds
pub mod Scalar
pub mod code
