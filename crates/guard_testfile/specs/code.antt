-- What serves the code and its proofs alone: nobody has to believe it.
pub mod Places
pub mod RuleSites
pub mod Seen
pub mod Siblings
pub mod Written
