pub mod Request
pub mod code
