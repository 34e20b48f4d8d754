-- What serves the code and its proofs alone: nobody has to believe it.
pub mod Groups
pub mod PropertyMaps
pub mod Scalars
pub mod Seen
pub mod SeenGroups
pub mod SeenKeys
pub mod GeneratedPieces
