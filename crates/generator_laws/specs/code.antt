-- What serves the laws and their proofs alone: nobody has to believe it.
pub mod GeneratedSyntax
pub mod RuleNames
pub mod Standing
