pub mod ArgumentsSeen
pub mod BodiesApart
pub mod CallFrames
mod CallsApart
mod CellsApart
mod DistinctFrames
pub mod EnteredFrames
mod FilledCells
pub mod FramesAround
pub mod NamesBound
mod OutwardSteps
pub mod RulesNamed
