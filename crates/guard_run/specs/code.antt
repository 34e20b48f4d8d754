-- What serves the code and its proofs alone: nobody has to believe it.
pub mod Drilled
pub mod Forms
pub mod Jobs
pub mod Outcome
pub mod Stages
pub mod Tested
pub mod Writing
