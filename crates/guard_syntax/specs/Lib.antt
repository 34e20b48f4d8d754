pub mod Functions
pub mod Named
pub mod Syntax
pub mod Sites
pub mod code
