pub mod EntryLines
pub mod Messages
pub mod Paths
pub mod RuleLines
pub mod Spelling
pub mod Texts
pub mod code
