pub mod UsesInTurn
mod FoundInTurn
mod ScopeParts
mod Arities
mod NameSets
mod SeenNames
