-- What serves the code and its proofs alone: nobody has to believe it.
pub mod Answered
pub mod FirstCites
pub mod Judging
