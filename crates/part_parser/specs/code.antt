-- What serves the code and its proofs alone: nobody has to believe it.
pub mod Adding
pub mod GrammarReads
pub mod Leads
pub mod Reading
