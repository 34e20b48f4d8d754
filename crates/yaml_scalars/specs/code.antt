-- What serves the code and its proofs alone: nobody has to believe it.
pub mod BlockSteps
pub mod KindSteps
pub mod Limits
pub mod Memory
pub mod PlainSteps
pub mod QuotedSteps
pub mod Walk
