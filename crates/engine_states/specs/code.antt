-- What serves the code and its proofs alone: nobody has to believe it.
pub mod Adding
pub mod Answers
pub mod Entered
pub mod Environments
pub mod Evaluated
pub mod Falling
pub mod Inside
pub mod Kinds
pub mod Leaning
pub mod Lines
pub mod PartDepths
pub mod Ruling
pub mod States
