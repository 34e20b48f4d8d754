-- What serves the code and its proofs alone: nobody has to believe it.
pub mod Behind
pub mod Codes
pub mod Entries
pub mod Growth
pub mod Index
pub mod Kept
pub mod Laws
pub mod Merging
pub mod Parts
pub mod Rows
pub mod Stored
pub mod Uses
pub mod WellFormed
