pub mod RuleText
pub mod code
