-- What serves the code and its proofs alone: nobody has to believe it.
pub mod Begun
pub mod Files
pub mod Forms
pub mod IncreasingSites
pub mod Marks
pub mod Order
pub mod PieceTables
pub mod Seen
pub mod Within
