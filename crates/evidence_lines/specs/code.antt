-- What serves the code and its proofs alone: nobody has to believe it.
pub mod Held
pub mod RowsSeen
pub mod Said
