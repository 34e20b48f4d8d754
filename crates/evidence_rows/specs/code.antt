-- What serves the code and its proofs alone: nobody has to believe it.
pub mod Calls
pub mod Kept
pub mod Makes
pub mod OneCite
pub mod TestedRows
