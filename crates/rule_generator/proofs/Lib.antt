pub mod Distinct
mod Examples
pub mod GroupTurns
pub mod Grouping
pub mod KeptKeys
pub mod KeyPlaces
pub mod LastBytes
pub mod MappedTurns
pub mod Members
mod NearKeys
pub mod Nodes
pub mod RuleTexts
pub mod SameDecimals
pub mod Sameness
pub mod Turns
pub mod Written
pub mod GeneratedTokens
