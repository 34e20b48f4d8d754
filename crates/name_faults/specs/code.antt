-- What serves the code and its proofs alone: nobody has to believe it.
pub mod Arities
pub mod Found
pub mod FoundParts
pub mod NameSets
pub mod RuleArities
