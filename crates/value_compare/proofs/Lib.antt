pub mod Counted
pub mod Examples
mod KeptMatchers
mod Forests
mod MapKeys
mod Equalities
mod Walks
mod Settling
mod RowExamples
mod Items
mod FoundRows
mod Making
mod AnswerKinds
