mod CountedVerdicts
mod Counting
mod DrillTexts
mod Listing
mod ReportTexts
mod ReportedBy
mod RuleSites
mod RuleTables
pub mod TakenTexts
mod Tallies
mod ToldEntries
mod WrittenLeads
mod Writing
