pub mod EarlierCites
pub mod Exits
pub mod LeadEntries
mod Appending
mod FailingLines
mod KnownRows
mod LoopLeads
mod PartLeads
mod SetsAsked
mod SitesOfLines
