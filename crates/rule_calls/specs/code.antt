-- What serves the code and its proofs alone: nobody has to believe it.
pub mod Ends
pub mod Ranks
pub mod Reported
pub mod Turns
