pub mod Among
pub mod Arguments
pub mod Behind
pub mod Capping
pub mod FileParts
pub mod HomeTables
pub mod Lists
pub mod Parts
pub mod PiecesStand
mod PiecesNoted
mod PieceTables
pub mod Increases
pub mod Settled
pub mod Shallow
pub mod ShallowParts
pub mod Shapes
pub mod Tied
pub mod FittingCalls
pub mod PiecesFound
pub mod Sizes
pub mod FallingEdges
pub mod NameCycles
pub mod DepthTables
pub mod PlainRules
