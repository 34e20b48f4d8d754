-- What serves the code and its proofs alone: nobody has to believe it.
pub mod Binders
pub mod RuleSites
pub mod ScopeChains
pub mod Seen
