pub mod code
pub mod GeneratedRules
