pub mod Marking
mod Walks
pub mod Additions
mod Layouts
mod EdgeGraphs
pub mod Reversals
mod NodeUses
mod Orderings
mod WalkSteps
pub mod OnCycle
mod SubgraphNodes
pub mod PartUses
