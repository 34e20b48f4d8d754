pub mod CitedLines
pub mod Follows
pub mod Lean
pub mod Rejected
pub mod RuleLines
pub mod code
