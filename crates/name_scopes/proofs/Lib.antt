mod GivenInTurn
pub mod FirstFaults
mod Merged
pub mod ScopeShapes
mod RuleSites
mod BindersInTurn
mod VisibleNames
