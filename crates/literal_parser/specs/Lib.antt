pub mod Lexemes
pub mod Forms
pub mod Brackets
pub mod States
pub mod Literal
pub mod code
