mod BookLemmas
pub mod FindsLemmas
pub mod GivenTrees
pub mod OneAnswer
mod SitesWritten
mod SoughtSites
