pub mod WordText
pub mod code
