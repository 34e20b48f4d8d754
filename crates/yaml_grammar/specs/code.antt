-- What serves the code and its proofs alone: nobody has to believe it.
pub mod AheadSeen
pub mod Closers
pub mod Extends
pub mod Feeds
pub mod FlowReads
pub mod Memory
pub mod Places
pub mod Points
pub mod Refused
pub mod ReadAgain
pub mod Reads
pub mod Rest
pub mod Splits
pub mod StepReads
pub mod Steps
pub mod StopPlaces
pub mod Twins
