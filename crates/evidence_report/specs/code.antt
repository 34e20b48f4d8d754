-- What serves the code and its proofs alone: nobody has to believe it.
pub mod Counts
pub mod RuleEntries
pub mod RuleTables
pub mod VerdictLines
pub mod Written
