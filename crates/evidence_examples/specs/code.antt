-- What serves the code and its proofs alone: nobody has to believe it.
pub mod DecidedCondition
pub mod FailingRule
pub mod GivenLines
pub mod OneCall
pub mod OneVariable
pub mod OtherKinds
