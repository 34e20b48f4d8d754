pub mod LinesPlaced
pub mod OtherKinds
pub mod PartsSeen
pub mod SaidKnown
pub mod SitesWithin
mod ExprsFollow
mod ExprsKnown
mod FramedVerdicts
mod FramesAround
mod FramesValued
mod LinesSaid
mod OwnersMarked
mod OwnersStand
mod RowsFound
mod RowsGiven
mod SitesFound
mod ValuesKnown
mod VerdictsJudged
