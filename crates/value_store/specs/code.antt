-- What serves the code and its proofs alone: nobody has to believe it.
pub mod BookCovers
pub mod Books
pub mod Kept
pub mod Stores
pub mod Views
