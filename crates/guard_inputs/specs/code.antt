-- What serves the code and its proofs alone: nobody has to believe it.
pub mod Inputs
pub mod Joined
pub mod Loading
pub mod Merging
pub mod Refusals
pub mod Stops
pub mod Tests
