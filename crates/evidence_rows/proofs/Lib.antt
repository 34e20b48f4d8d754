pub mod Decided
pub mod KeptTrees
pub mod SaidOnce
mod ArgumentsGiven
mod CallsFollow
mod OneGiven
mod RowsPlaced
mod RowsTested
mod SetsAsked
mod StepKinds
mod StepLines
mod StepsSeen
mod TestsDecided
mod TypeLines
