mod CaseTexts
mod ChildPlaces
mod Examples
mod FirstFailures
mod KeyTexts
pub mod NamedRules
mod NamesOfSites
mod Sentences
mod Siblings
mod VerdictsByName
