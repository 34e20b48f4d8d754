pub mod FilterRows
pub mod FilterWalks
mod StepPlaces
mod EmptyLists
mod LoopRows
mod NamedTexts
pub mod KnownModel
pub mod Keyed
mod JudgedRows
pub mod KnownRows
pub mod SeenFilters
pub mod SeenFunctions
pub mod SeenGrowth
pub mod SeenLocations
pub mod SeenSteps
pub mod SeenAnswers
pub mod SeenScopes
pub mod SeenVerdicts
pub mod LocatedAnswers
pub mod KnownAnswers
pub mod SetsSeen
pub mod RowsKept
pub mod SoughtTexts
